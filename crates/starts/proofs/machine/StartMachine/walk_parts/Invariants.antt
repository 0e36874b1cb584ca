use Rattle.starts.specs.Parts.{Lanes}
use Rattle.starts.specs.Runs.{move_of}
use Rattle.starts.proofs.Parting.{Round}
use Rattle.starts.proofs.machine.StartMachine.walk_parts.Given as goal

abbrev pub invariant-loop-i : goal.invariant-loop-i
invariant-loop-i g l = Lanes (move_of l.moves) l.self.count l.text l.part l.fn.from l.i l.lanes

abbrev pub invariant-loop-j : goal.invariant-loop-j
invariant-loop-j g l = Round (move_of l.moves) l.self.count l.text l.part l.fn.from l.i l.j l.lanes
