use Rattle.machines.proofs.SetLemmas.Simulating.{Sent}
use Rattle.machines.proofs.SetLemmas.Walking.{Walked}
use Rattle.machines.proofs.set.SetMachine.onward.Given as goal

abbrev pub invariant-loop-index : goal.invariant-loop-index
invariant-loop-index l = Sent l.self.count l.self.moves.now l.text l.at l.map l.index × Walked l.self.count l.self.moves.now l.text l.walks l.walked
