-- What begins a well-written pattern, and the longest such beginning of a badly written one. Assumes nothing.
use Rattle.std.specs.Prelude.{ℕ, ◌<◌, ◌≤◌, List, ◌++◌, length, take}
use Rattle.notation.specs.Grammar.{WellWritten}

-- some bytes after w make it well written
abbrev pub Begins : List ℕ → Type 0
Begins w = (v : List ℕ) × WellWritten (w ++ v)

pub record LongestBeginning (w : List ℕ) (n : ℕ) : Type 0 where
  pub within : n ≤ length w
  pub begins : Begins (take n w)
  pub longest : (k : ℕ) → n < k → k ≤ length w → Begins (take k w) → ⊥
