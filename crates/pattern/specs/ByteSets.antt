-- Which bytes a set of bytes holds. Assumes nothing.
--
--   Has b c      the byte c is in the set b
--   Holds b s    of the 256 bytes, b has just those that the symbol s takes
use Rattle.std.specs.Prelude.{ℕ, ◌<◌, false, IsTrue, ◌↔◌, slice_index_or}
use Rattle.pattern.specs.declared.bytes.ByteSet.{ByteSet}
use Rattle.notation.specs.Expressions.{Symbol, Takes}

abbrev pub Has : ByteSet → ℕ → Type 0
Has b c = IsTrue (slice_index_or b.has c false)

abbrev pub Holds : ByteSet → Symbol → Type 0
Holds b s = (c : ℕ) → c < 256 → (Has b c ↔ Takes s c)
