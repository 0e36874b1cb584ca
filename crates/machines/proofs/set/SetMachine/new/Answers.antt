use Rattle.std.proofs.Common.{refl}
use Rattle.machines.proofs.SetLemmas.Built.{built}
use Rattle.machines.proofs.SetLemmas.Tabling.{tables_simulate}
use Rattle.machines.proofs.SetLemmas.Starting.{starts_reached}
use Rattle.machines.proofs.set.SetMachine.new.Goals as goal

pub invariant_of-result : goal.invariant_of-result
invariant_of-result c = record { simulates = tables_simulate _ _ _ _ c.requires.tables }

pub returns : goal.returns
returns c = record { over = (refl, refl, refl, refl); starts = starts_reached c.args.place.tables c.args.count c.args.sets.now c.args.moves.now c.requires.tables; built = built _ _ _ _ (tables_simulate _ _ _ _ c.requires.tables) c.args.place.made }
