-- Which slot loses the text: after it, and after no slot before it, the text is lost. Assumes nothing.
--
--   upto slots s         the texts of the slots up to and with s, joined
--   FirstLost M slots r  r is that slot, or none where the text can still be brought into M after every slot
use Rattle.std.specs.Prelude.{ℕ, ◌+◌, ◌<◌, List, length, take, Some, None, Option}
use Rattle.folding.specs.Sets.{Hopeful, Lost}
use Rattle.folding.specs.Texts.{together}

abbrev pub upto : List (List ℕ) → ℕ → List ℕ
upto slots s = together (take (s + 1) slots)

abbrev pub FirstLost : (List ℕ → Type 0) → List (List ℕ) → Option ℕ → Type 0
FirstLost M slots None = (s : ℕ) → s < length slots → Hopeful M (upto slots s)
FirstLost M slots (Some c) = (c < length slots) × Lost M (upto slots c) × ((s : ℕ) → s < c → Hopeful M (upto slots s))
