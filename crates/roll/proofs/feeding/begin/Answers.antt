use Rattle.std.proofs.Common.{refl}
use Rattle.roll.proofs.feeding.begin.Goals as goal

pub returns : goal.returns
returns g c = record {
  begins = record {
    counted = record { bytes = tt; tallies = c.empty-2.ensures.value; count = refl };
    legs = c.empty.ensures.value;
  };
}
