use Rattle.std.proofs.Common.{◌∙◌}
use Rattle.std.proofs.lemmas.List.{take-replicate}
use Rattle.roll.specs.declared.slot.Slot.TheVariants.{Empty}
use Rattle.roll.proofs.opening.empty_slots.Goals as goal

pub returns : goal.returns
returns c = let made = (rw c.unwrap.ensures at c.try_from.ensures) in record { value = made.0 ∙ take-replicate c.args.n 128 Empty c.requires.few }
