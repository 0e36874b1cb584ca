use Rattle.starts.proofs.Filling.{Filled}
use Rattle.starts.proofs.statemap.StateMap.identity.Given as goal

abbrev pub invariant-loop-s : goal.invariant-loop-s
invariant-loop-s l = Filled (λ s. s) l.s l.to
