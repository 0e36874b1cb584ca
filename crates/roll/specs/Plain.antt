-- The plain roll: what a roll means, with the texts themselves in its slots. Assumes nothing.
--
--   Plain      a list of slots, each with a text or without; at first the list is empty
--   texts p    the text of each slot, the empty one for an empty slot
--   whole p    the held texts, joined in slot order
--   marks p    which slots are held
use Rattle.std.specs.Prelude.{ℕ, List, [], map, Some, None, Option}
use Rattle.std.specs.Option.{unwrap_or}
use Rattle.folding.specs.Texts.{together}
use Rattle.roll.specs.declared.slot.Slot.{Slot}
use Rattle.roll.specs.declared.slot.Slot.TheVariants.{Held, Empty}

abbrev pub Plain : Type 0
Plain = List (Option (List ℕ))

abbrev pub texts : Plain → List (List ℕ)
texts p = map (λ o. unwrap_or o []) p

abbrev pub whole : Plain → List ℕ
whole p = together (texts p)

abbrev pub mark : Option (List ℕ) → Slot
mark None = Empty
mark (Some w) = Held

abbrev pub marks : Plain → List Slot
marks p = map mark p
