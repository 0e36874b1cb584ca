-- The size that a bundle must have, from its bytes alone. Assumes nothing.
--
--   word16 bs i    the 16-bit number at place i, high byte first; a byte past the end counts as 0
--   sum16 bs i n   the sum of the n 16-bit numbers from place i on
--   count bs       how many strips bs announces, and pattern_size bs how many bytes of pattern
--   announced bs   the size that the two sizes and the lengths of bs come to
--   RightSize bs   bs is as long as it announces, and not too long
use Rattle.std.specs.Prelude.{◌≡◌, ℕ, zero, suc, ◌+◌, ◌*◌, ◌≤◌, List, length, slice_index}

abbrev pub word16 : List ℕ → ℕ → ℕ
word16 bs i = 256 * slice_index bs i + slice_index bs (i + 1)

abbrev pub sum16 : List ℕ → ℕ → ℕ → ℕ
sum16 bs i zero = 0
sum16 bs i (suc n) = word16 bs i + sum16 bs (i + 2) n

abbrev pub count : List ℕ → ℕ
count bs = word16 bs 0

abbrev pub pattern_size : List ℕ → ℕ
pattern_size bs = word16 bs 2

abbrev pub announced : List ℕ → ℕ
announced bs = 4 + 3 * count bs + pattern_size bs + sum16 bs (4 + count bs) (count bs)

abbrev pub RightSize : List ℕ → Type 0
RightSize bs = (length bs ≡ announced bs) × (length bs ≤ 32768)
