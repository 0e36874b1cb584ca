-- The tally of a text: its bytes and its line ends, each stopping at the largest number of 32 bits. Assumes nothing.
use Rattle.std.specs.Prelude.{ℕ, min, List, length, count_by, nat_eq}
use Rattle.folding.specs.declared.tally.Tally.{Tally}

abbrev pub most : ℕ
most = 4294967295

-- line ends are the bytes 10
abbrev pub line_ends : List ℕ → ℕ
line_ends w = count_by (λ b. nat_eq b 10) w

abbrev pub tally : List ℕ → Tally
tally w = record { bytes = min (length w) most; lines = min (line_ends w) most }
