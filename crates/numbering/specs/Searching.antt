-- How far a search has got. Only private functions cite it. Assumes nothing.
--
--   Sofar first next points moves     `moves` are the numbers that the first pairs of number and byte lead to, and `points` those met by
--                                     them, in the order of first meeting
--   Progress first next n m ..        the two tables, which were and are, begin with n such points and m such moves; past them nothing
--                                     has changed
--   Reading first next limit ..       where the tables fit and were so far, they are so far now
--   MeetsIn n were p k n' are          the same of the first n points in a table that was and is, with no change past them
--   Meets points p k met              p has the number k among the points met with it, which are the points and p behind them if it is new
--   Likes next n likes                to each of the first n bytes one that is not after it, and that no point tells apart from it
use Rattle.std.specs.Prelude.{◌≡◌, ℕ, ◌*◌, ◌/◌, ◌%◌, ◌<◌, ◌≤◌, ◌⊎◌, List, [], ◌∷◌, ◌++◌, length, take, drop, Contains, Some, slice_index}
use Rattle.std.specs.List.{slice_get}
use Rattle.numbering.specs.Filling.{Fit}
use Rattle.numbering.specs.Numbering.{Leads}

pub record Sofar {P : Type 0} (first : P) (next : P → ℕ → P) (points : List P) (moves : List ℕ) : Type 0 where
  pub begins : slice_get points 0 ≡ Some first
  pub once : (i j : ℕ) (p : P) → slice_get points i ≡ Some p → slice_get points j ≡ Some p → i ≡ j
  pub within : length moves ≤ 256 * length points
  pub leads : (i k : ℕ) → slice_get moves i ≡ Some k → Leads next points (i / 256) (i % 256) k
  pub met : (k : ℕ) → 1 ≤ k → k < length points → (i : ℕ) × (slice_get moves i ≡ Some k) × (i / 256 < k)
  pub ordered : (j k i : ℕ) → 1 ≤ j → j < k → slice_get moves i ≡ Some k → (h : ℕ) × (h < i) × (slice_get moves h ≡ Some j)

pub record Progress {P : Type 0} (first : P) (next : P → ℕ → P) (n m : ℕ) (were are : List P) (before after : List ℕ) : Type 0 where
  pub count : length (take n are) ≡ n
  pub moved : length (take m after) ≡ m
  pub so_far : Sofar first next (take n are) (take m after)
  pub rest : drop n are ≡ drop n were
  pub others : drop m after ≡ drop m before

abbrev pub Reading : {P : Type 0} → P → (P → ℕ → P) → ℕ → ℕ → ℕ → List P → List ℕ → ℕ → ℕ → List P → List ℕ → Type 0
Reading {P} first next limit n m points moves n' m' points' moves' =
    (were : List P) (before : List ℕ) → Fit limit points moves → Progress first next n m were points before moves
    → (length points' ≡ length points) × (take n points' ≡ take n points) × Progress first next n' m' were points' before moves'

abbrev pub Meets : {P : Type 0} → List P → P → ℕ → List P → Type 0
Meets points p k met =
    ((slice_get points k ≡ Some p) × (met ≡ points))
    ⊎ ((Contains points p → ⊥) × (k ≡ length points) × (met ≡ points ++ (p ∷ [])))

abbrev pub Likes : {P : Type 0} → (P → ℕ → P) → ℕ → List ℕ → Type 0
Likes {P} next n likes = (c : ℕ) → c < n → (slice_index likes c ≤ c) × ((p : P) → next p (slice_index likes c) ≡ next p c)

abbrev pub MeetsIn : {P : Type 0} → ℕ → List P → P → ℕ → ℕ → List P → Type 0
MeetsIn n were p k n' are =
    Meets (take n were) p k (take n' are) × (n ≤ n') × (n' ≤ length are) × (drop n' are ≡ drop n' were) × (length are ≡ length were)
