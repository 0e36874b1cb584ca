-- The points of a space that texts reach, from a first point by a next one for each byte. Assumes nothing.
--
--   after next p w          the point that the text w leads to from p
--   Reached first next p    some text leads from the first point to p
--   Unlike n Same           there are n + 1 texts of which no two are the same, by `Same`
--   MoreThan n first next   more than n different points are reached: n + 1 texts lead to points of which no two are the same
use Rattle.std.specs.Prelude.{◌≡◌, ℕ, ◌+◌, List, [], ◌∷◌, length, Some}
use Rattle.std.specs.List.{slice_get}
use Rattle.folding.specs.Texts.{Bytes, AllBytes}

unfoldable pub after : {P : Type 0} → (P → ℕ → P) → P → List ℕ → P
after next p [] = p
after next p (c ∷ w) = after next (next p c) w

abbrev pub Reached : {P : Type 0} → P → (P → ℕ → P) → P → Type 0
Reached first next p = (w : List ℕ) × Bytes w × (p ≡ after next first w)

pub record Unlike (n : ℕ) (Same : List ℕ → List ℕ → Type 0) : Type 0 where
  pub texts : List (List ℕ)
  pub bytes : AllBytes texts
  pub many : length texts ≡ n + 1
  pub differ : (i j : ℕ) (v w : List ℕ) → slice_get texts i ≡ Some v → slice_get texts j ≡ Some w → Same v w → i ≡ j

abbrev pub MoreThan : {P : Type 0} → ℕ → P → (P → ℕ → P) → Type 0
MoreThan n first next = Unlike n (λ v w. after next first v ≡ after next first w)
