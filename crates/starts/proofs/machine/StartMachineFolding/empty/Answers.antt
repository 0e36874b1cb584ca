use Rattle.std.proofs.Common.{◌∙◌, sym}
use Rattle.starts.specs.Runs.{move_of}
use Rattle.starts.proofs.Leading.{led_none}
use Rattle.starts.proofs.machine.StartMachineFolding.empty.Goals as goal

pub returns : goal.returns
returns g c = record { value = c.identity.ensures.value ∙ sym (led_none (move_of c.args.self.now.moves.now) 0) }
