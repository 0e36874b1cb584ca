use Rattle.starts.specs.Maps.{to}
use Rattle.starts.proofs.Filling.{Filled}
use Rattle.starts.proofs.statemap.StateMap.then.Given as goal

abbrev pub invariant-loop-s : goal.invariant-loop-s
invariant-loop-s l = Filled (λ s. to l.second (to l.self s)) l.s l.to
