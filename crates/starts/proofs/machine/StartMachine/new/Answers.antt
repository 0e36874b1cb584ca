use Rattle.std.proofs.Common.{refl}
use Rattle.starts.proofs.Following.{built}
use Rattle.starts.proofs.Tabling.{tables_follow}
use Rattle.starts.proofs.machine.StartMachine.new.Goals as goal

pub invariant_of-result : goal.invariant_of-result
invariant_of-result g c = record { follows = tables_follow _ _ _ _ _ c.requires.tables }

pub returns : goal.returns
returns g c =
    let a = c.args.automaton.now in
    record { over = (refl, refl, refl, refl); built = built _ _ _ _ _ (g.met.A.Automaton.few a) (g.met.A.Automaton.closed a) (tables_follow _ _ _ _ _ c.requires.tables) (g.A.Automaton.means a) }
