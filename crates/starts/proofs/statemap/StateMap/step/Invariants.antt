use Rattle.starts.specs.Maps.{to}
use Rattle.starts.proofs.Filling.{Filled}
use Rattle.starts.proofs.statemap.StateMap.step.Given as goal

abbrev pub invariant-loop-s : goal.invariant-loop-s
invariant-loop-s g l = Filled (λ s. g.A.Automaton.moved l.automaton (to l.self s) l.c) l.s l.to
