use Rattle.std.proofs.Common.{◌∷◌, []}
use Rattle.machines.proofs.SetLemmas.Simulating.{Sent}
use Rattle.machines.proofs.set.SetMachineFolding.step.Given as goal

abbrev pub invariant-loop-s : goal.invariant-loop-s
invariant-loop-s l = Sent l.self.count l.self.moves.now (l.c ∷ []) l.at l.map l.s
