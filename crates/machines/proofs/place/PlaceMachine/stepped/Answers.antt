use Rattle.std.proofs.Common.{ap₂}
use lib.Bits.{bit_and}
use Rattle.machines.proofs.place.PlaceMachine.stepped.Goals as goal

pub returns : goal.returns
returns c =
    let t = c.args.self.now.tables in
    record { value = ap₂ bit_and c.image.ensures.value c.takes.ensures.value }
