use Rattle.std.proofs.Common.{◌-◌, ◌≤◌, length, take}
use Rattle.folding.specs.Legs.{Extends}
use Rattle.machines.specs.Set.Runs.{transformation}
use Rattle.machines.proofs.set.SetMachineFolding.extend.Given as goal

abbrev pub invariant-loop-done : goal.invariant-loop-done
invariant-loop-done l = (l.done ≤ length l.text) × Extends (transformation l.self.count l.self.moves.now) l.at (take l.done l.text) l.map

abbrev pub decreases-loop-done : goal.decreases-loop-done
decreases-loop-done l = length l.text - l.done
