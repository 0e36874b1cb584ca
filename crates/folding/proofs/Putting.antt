-- The cells when a slot has been written, and those above it not yet, and when those are written too. Assumes nothing.
use Rattle.std.proofs.Common.{◌≡◌, ℕ, ◌+◌, ◌*◌, ◌/◌, ◌<◌, ◌≤◌, List, [], ◌++◌, length, get_or, set, sym, ap, ◌∙◌, subst, ⊎_elim, append-nil, arith, lit≤, length-append, length-set, ext_get_or, get_or-set_other, get_or-set_same}
use Rattle.std.proofs.ByRecursion.{All-set}
use Rattle.std.proofs.lemmas.Bool.{cases_eq, cases_lt}
use Rattle.std.proofs.lemmas.List.{get_or_append_left, get_or-append_right}
use Rattle.folding.specs.Cells.{under, cells, Above}
use Rattle.folding.specs.Keeping.{half, Puts, Spares, Ready}
use Rattle.folding.specs.Texts.{Bytes, AllBytes}
use Rattle.folding.proofs.Entries.{length_cells, get_or_cells}
use Rattle.folding.proofs.Trees.{tree, under_set, above_self, above_up, above_le, none_above_zero, not_above}

-- `one` was written at `at` and the climb began at `from`, which are both the cell of slot s
module _ {L : Type 0} (leg : List ℕ → L) (was : List L) (s : ℕ) (one : L) (at from : ℕ) (place : at ≡ half was + s) (start : from ≡ half was + s) where
  -- slot s itself is right, and under the others nothing has changed
  put_ready : (slots : List (List ℕ)) (rest : List L) (w : List ℕ) → half was ≡ length slots → s < length slots → was ≡ cells leg slots ++ rest → one ≡ leg w → Ready leg (set slots s w) (from / 2) (set was at one)
  put_ready slots rest w n lt is right k in' off =
      let size = length_cells leg slots in
      let same = length-set slots s w in
      ⊎_elim
      (λ e.
      ap (λ x. get_or (set was at one) x (leg [])) e
      ∙ get_or-set_same was at one (leg []) (omega arith)
      ∙ right
      ∙ ap leg (sym (ap (under (set slots s w)) (at_slot e same) ∙ (tree (set slots s w)).slot s (omega arith) ∙ get_or-set_same slots s w [] lt)))
      (λ ne.
      get_or-set_other was at k one (leg []) ne
      ∙ ap (λ l. get_or l k (leg [])) is
      ∙ get_or_append_left (cells leg slots) rest (leg []) k (omega arith)
      ∙ get_or_cells leg slots k (leg []) (omega arith)
      ∙ ap leg (sym (under_set slots s w k (λ a. not_above k (half was + s) (λ a. off (subst (λ x. Above k (x / 2)) (sym start) a)) (λ e. ne (e ∙ sym place)) (subst (λ x. Above k (x + s)) (sym n) a)))))
      (cases_eq k at)
    where
      at_slot : k ≡ at → length (set slots s w) ≡ length slots → k ≡ length (set slots s w) + s
      at_slot e same = omega arith

  -- no cell has changed but those from slot s up
  abbrev Kept : List L → Type 0
  Kept is = (k : ℕ) (d : L) → (Above k (from / 2) → ⊥) → get_or is k d ≡ get_or (set was at one) k d

  pub put_spared : (is : List L) → Kept is → 1 ≤ half was + s → Spares was s is
  put_spared is kept pos k d off = kept k d (λ a. off (above_up k (half was + s) (subst (λ x. Above k (x / 2)) start a))) ∙ get_or-set_other was at k one d (λ e. off (subst (λ x. Above x (half was + s)) (sym (e ∙ place)) (above_self (half was + s) pos)))

  pub put_cells : (is : List L) → length is ≡ length was → Kept is → 1 ≤ half was + s → ((slots : List (List ℕ)) → AllBytes slots → half (set was at one) ≡ length slots → Ready leg slots (from / 2) (set was at one) → Ready leg slots 0 is) → Puts leg was s one is
  put_cells is long kept pos joined slots rest w bytes short byte lt was-is right =
      let size = length_cells leg slots in
      let size' = length_cells leg (set slots s w) in
      let same = length-set slots s w in
      let same' = length-set was at one in
      let whole : length was ≡ 2 * length slots + length rest = ap length was-is ∙ length-append (cells leg slots) rest ∙ ap (λ n. n + length rest) size in
      let n : half was ≡ length slots = omega arith in
      let ready : Ready leg (set slots s w) 0 is = joined (set slots s w) (All-set Bytes slots s w byte bytes) (omega arith) (put_ready slots rest w n lt was-is right) in
      ext_get_or (leg []) is (cells leg (set slots s w) ++ rest)
      (long ∙ whole ∙ ap (λ n. n + length rest) (sym (size' ∙ ap (λ n. 2 * n) same)) ∙ sym (length-append (cells leg (set slots s w)) rest))
      (λ k in'. ⊎_elim
      (λ low.
      ready k (omega arith) (none_above_zero k)
      ∙ sym (get_or_append_left (cells leg (set slots s w)) rest (leg []) k (omega arith) ∙ get_or_cells leg (set slots s w) k (leg []) (omega arith)))
      (λ high.
      put_spared is kept pos k (leg []) (λ a. let le = above_le k (half was + s) a in omega arith)
      ∙ ap (λ l. get_or l k (leg [])) was-is
      ∙ get_or-append_right (cells leg slots) rest (2 * length slots) k (leg []) size high
      ∙ sym (get_or-append_right (cells leg (set slots s w)) rest (2 * length slots) k (leg []) (size' ∙ ap (λ n. 2 * n) same) high))
      (cases_lt k (2 * length slots)))

-- where every cell is in the tree
pub puts_even : {L : Type 0} (leg : List ℕ → L) (was : List L) (s : ℕ) (one : L) (is : List L) → Puts leg was s one is → (slots : List (List ℕ)) (w : List ℕ) → AllBytes slots → Bytes w → s < length slots → was ≡ cells leg slots → one ≡ leg w → is ≡ cells leg (set slots s w)
puts_even leg was s one is puts slots w bytes byte lt was-is right =
    puts slots [] w bytes (lit≤ tt) byte lt (was-is ∙ sym (append-nil (cells leg slots))) right ∙ append-nil (cells leg (set slots s w))
