-- Points numbered in the order of first meeting (breadth first): from each in order of number, by the bytes 0 to 255 in order. Assumes nothing.
--
--   Leads next points s c k      the byte c leads from point s to point k
--   Before s' c' s c             the pair (s', c') comes before (s, c): by the number, and then by the byte
--   Numbering first next points  `points` are the points reached from the first, each at its number: the first point begins, none
--                                stands there twice, each byte leads from each to one of them, to each but the first from an
--                                earlier one, and of two of them the earlier is met earlier
use Rattle.std.specs.Prelude.{◌≡◌, ℕ, ◌+◌, ◌*◌, ◌<◌, ◌≤◌, List, length, Some}
use Rattle.std.specs.List.{slice_get}

pub record Leads {P : Type 0} (next : P → ℕ → P) (points : List P) (s c k : ℕ) : Type 0 where
  pub byte : c < 256
  pub point : P
  pub from : slice_get points s ≡ Some point
  pub to : slice_get points k ≡ Some (next point c)

abbrev pub Before : ℕ → ℕ → ℕ → ℕ → Type 0
Before s' c' s c = 256 * s' + c' < 256 * s + c

pub record Numbering {P : Type 0} (first : P) (next : P → ℕ → P) (points : List P) : Type 0 where
  pub begins : slice_get points 0 ≡ Some first
  pub once : (i j : ℕ) (p : P) → slice_get points i ≡ Some p → slice_get points j ≡ Some p → i ≡ j
  pub closed : (s c : ℕ) → s < length points → c < 256 → (k : ℕ) × Leads next points s c k
  pub met : (k : ℕ) → 1 ≤ k → k < length points → (s : ℕ) × (c : ℕ) × (s < k) × Leads next points s c k
  pub ordered : (j k s c : ℕ) → 1 ≤ j → j < k → Leads next points s c k → (s' : ℕ) × (c' : ℕ) × Before s' c' s c × Leads next points s' c' j
