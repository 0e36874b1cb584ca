use Rattle.std.proofs.Common.{refl}
use Rattle.folding.proofs.cells.leaves.Goals as goal

pub returns : goal.returns
returns g c = record { value = refl }
