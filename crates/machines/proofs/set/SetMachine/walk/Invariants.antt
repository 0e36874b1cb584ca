use Rattle.std.proofs.Common.{◌≡◌, ◌<◌, drop}
use Rattle.starts.specs.Automata.{led}
use Rattle.starts.specs.Runs.{move_of}
use Rattle.machines.proofs.set.SetMachine.walk.Given as goal

-- what is left leads on from here to where the whole text leads
abbrev pub invariant-loop-c : goal.invariant-loop-c
invariant-loop-c l = l.fn.from < l.self.count → (l.at < l.self.count) × (led (move_of l.self.moves.now) (drop l.c-index l.text) l.at ≡ led (move_of l.self.moves.now) l.text l.fn.from)
