use Rattle.std.proofs.Common.{◌≡◌, ℕ, ◌<◌}
use Rattle.starts.proofs.build.MapsSpaceStateMap.alike.Given as goal

abbrev pub invariant-loop-s : goal.invariant-loop-s
invariant-loop-s g l = (k : ℕ) → k < l.s → g.A.Automaton.moved l.self.automaton.now k l.b ≡ g.A.Automaton.moved l.self.automaton.now k l.c
