use Rattle.std.proofs.Common.{refl}
use Rattle.folding.proofs.Gathering.{slotted}
use Rattle.roll.specs.Refusals.{culprit}
use Rattle.roll.proofs.Granting.{tables_at}
use Rattle.roll.proofs.Standing.{asks}
use Rattle.roll.proofs.roll.Roll.culprit.Goals as goal

pub returns : goal.returns
returns g c = record {
  does = record {
    always = asks _ culprit _ (tables_at _ _ _ _ c.len.ensures.value c.in_ok-fit.ensures.value) refl;
    keeps = λ p stands granted. ((c.first_lost.result, refl, c.first_lost.ensures.value _ stands.bytes (slotted _ _ _ stands.legs)), stands);
  };
}
