-- Sets of states as masks: one number, its bit q 1 if state q is in the set. Assumes nothing.
--
--   Has mask q               state q is in the set
--   SetOf mask P             the set has exactly the numbers that P holds of
--   Only when mask p         p is in the set, and the test passes
--   LaterIn n mask p         p is n numbers later than some place of the set
--   image_below rows set n   the union of the rows of those members of the set that are below n
--   image rows set           the union of the rows of the members of the set
--   IsImage rows set r       r is that union, member by member
--   Lowest set q             q is the first member of the set
use Rattle.std.specs.Prelude.{◌≡◌, ℕ, zero, suc, ◌-◌, ◌<◌, ◌≤◌, Bool, true, cond, ◌↔◌, List, ◌==◌, bit_or, slice_index}
use Rattle.std.specs.Int.{bit_at}

abbrev pub Has : ℕ → ℕ → Type 0
Has mask q = bit_at mask q ≡ 1

pub record SetOf (mask : ℕ) (P : ℕ → Type 0) : Type 0 where
  pub at : (p : ℕ) → Has mask p ↔ P p

abbrev pub Only : Bool → ℕ → ℕ → Type 0
Only when mask p = (when ≡ true) × Has mask p

abbrev pub LaterIn : ℕ → ℕ → ℕ → Type 0
LaterIn n mask p = (n < p) × (p < 64) × Has mask (p - n)

unfoldable pub image_below : List ℕ → ℕ → ℕ → ℕ
image_below rows set zero = 0
image_below rows set (suc n) = bit_or (image_below rows set n) (cond ((bit_at set n) == 1) (slice_index rows n) 0)

unfoldable pub image : List ℕ → ℕ → ℕ
image rows set = image_below rows set 64

abbrev pub IsImage : List ℕ → ℕ → ℕ → Type 0
IsImage rows set r = (p : ℕ) → Has r p ↔ ((q : ℕ) × (q < 64) × Has set q × Has (slice_index rows q) p)

pub record Lowest (set q : ℕ) : Type 0 where
  pub member : Has set q
  pub first : (p : ℕ) → Has set p → q ≤ p
