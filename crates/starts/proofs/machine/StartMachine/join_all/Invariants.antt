use Rattle.std.proofs.Common.{◌≡◌, List, ℕ, map, take}
use Rattle.folding.specs.Texts.{AllBytes, together}
use Rattle.starts.specs.Maps.{made}
use Rattle.starts.specs.Runs.{leg}
use Rattle.starts.proofs.machine.StartMachine.join_all.Given as goal

abbrev pub invariant-loop-start : goal.invariant-loop-start
invariant-loop-start g l =
    (texts : List (List ℕ)) → AllBytes texts → l.starts ≡ map (leg l.self.moves.now) texts
    → l.both ≡ made (g.A.Automaton.count l.self.automaton.now) (g.A.Automaton.moved l.self.automaton.now) (together (take l.start-index texts))
