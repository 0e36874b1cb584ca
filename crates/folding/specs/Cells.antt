-- The cells of N texts: a binary tree of their legs, laid out in 2N entries. Assumes nothing.
--
--   under slots i    the text below cell i of the texts in `slots`
--   Tree slots u     the layout: no text under cell 0, that of slot s under cell N + s, and under each cell i between them that of cell 2i and then that of cell 2i + 1
--   cells leg slots  the 2N legs
--   Above k i        cell k is cell i or stands above it
use Rattle.std.specs.Prelude.{◌≡◌, ℕ, zero, suc, ◌+◌, ◌-◌, ◌*◌, ◌/◌, ◌^◌, ◌<◌, ◌≤◌, cond, List, [], ◌++◌, map, length, nat_lt, slice_index_or}
use Rattle.std.specs.List.{range_with_len}

-- the same as `under`, with a bound on the levels below i
unfoldable pub below : List (List ℕ) → ℕ → ℕ → List ℕ
below slots zero i = slice_index_or slots (i - length slots) []
below slots (suc k) i = cond (nat_lt i (length slots)) (below slots k (2 * i) ++ below slots k (2 * i + 1)) (slice_index_or slots (i - length slots) [])

unfoldable pub under : List (List ℕ) → ℕ → List ℕ
under slots zero = []
under slots (suc i) = below slots (length slots) (suc i)

pub record Tree (slots : List (List ℕ)) (u : ℕ → List ℕ) : Type 0 where
  pub none : u 0 ≡ []
  pub slot : (s : ℕ) → s < length slots → u (length slots + s) ≡ slice_index_or slots s []
  pub inner : (i : ℕ) → 1 ≤ i → i < length slots → u i ≡ u (2 * i) ++ u (2 * i + 1)

unfoldable pub cells : {L : Type 0} → (List ℕ → L) → List (List ℕ) → List L
cells leg slots = map (λ i. leg (under slots i)) (range_with_len 0 (2 * length slots))

abbrev pub Above : ℕ → ℕ → Type 0
Above k i = (h : ℕ) × (k ≡ i / 2 ^ h) × (1 ≤ k)
