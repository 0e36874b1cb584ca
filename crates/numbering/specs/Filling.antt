-- What a search leaves in the two tables that it is lent, where the points are n. Assumes nothing.
--
--   Moves next points moves    entry 256 * s + c is the number of the point that c leads to from point s
--   Fills first next n ..      `points` and `moves`, which were and are, begin with the points of the numbering and their moves; past them
--                              nothing has changed
--   Fit limit points moves     the tables have 256 moves to each point, and the moves can hold their numbers
--   Blank n cells              past the first n of them all cells are 0
use Rattle.std.specs.Prelude.{◌≡◌, ℕ, ◌+◌, ◌-◌, ◌*◌, ◌<◌, ◌≤◌, List, length, take, drop, replicate, Some}
use Rattle.std.specs.List.{slice_get}
use Rattle.numbering.specs.Numbering.{Leads, Numbering}

abbrev pub Moves : {P : Type 0} → (P → ℕ → P) → List P → List ℕ → Type 0
Moves next points moves = (s c : ℕ) → s < length points → c < 256 → (k : ℕ) × (slice_get moves (256 * s + c) ≡ Some k) × Leads next points s c k

pub record Fills {P : Type 0} (first : P) (next : P → ℕ → P) (n : ℕ) (were are : List P) (before after : List ℕ) : Type 0 where
  pub count : length (take n are) ≡ n
  pub numbers : Numbering first next (take n are)
  pub moved : Moves next (take n are) (take (256 * n) after)
  pub rest : drop n are ≡ drop n were
  pub others : drop (256 * n) after ≡ drop (256 * n) before

abbrev pub Blank : ℕ → List ℕ → Type 0
Blank n cells = drop n cells ≡ replicate (length cells - n) 0

abbrev pub Fit : {P : Type 0} → ℕ → List P → List ℕ → Type 0
Fit limit points moves = (length moves ≡ 256 * length points) × (length points ≤ limit)
