-- Where a cursor stands in its pattern. Only private functions cite it. Assumes nothing.
--
--   Stands c b   the byte b stands at the cursor c
--   IsAtEnd c    the pattern ends at c
--   OnePattern c d   d stands in the pattern that c stands in
use Rattle.std.specs.Prelude.{◌≡◌, ℕ, ◌<◌, ◌≤◌, length, slice_index}
use Rattle.pattern.specs.declared.cursor.Cursor.{Cursor}

abbrev pub Stands : Cursor → ℕ → Type 0
Stands c b = (c.at < length c.pattern.now) × (slice_index c.pattern.now c.at ≡ b)

abbrev pub IsAtEnd : Cursor → Type 0
IsAtEnd c = length c.pattern.now ≤ c.at

abbrev pub OnePattern : Cursor → Cursor → Type 0
OnePattern c d = d.pattern.now ≡ c.pattern.now
