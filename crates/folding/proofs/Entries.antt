-- The list of all cells, by its entries. Assumes nothing.
use Rattle.std.proofs.Common.{◌≡◌, ℕ, ◌*◌, ◌<◌, List, [], ◌∷◌, length, get_or, replicate, sym, refl, ap, ◌∙◌, subst, arith}
use lib.ListN.{length-replicate}
use Rattle.std.proofs.lemmas.List.FromFn.{length-map-range_with_len, get_or-map-range_with_len, fill_by_all}
use Rattle.std.specs.List.{FoldsTo}
use Rattle.std.proofs.lemmas.List.{get_or-replicate}
use Rattle.folding.specs.Cells.{under, cells}
use Rattle.folding.specs.Keeping.{half, Clears}
use Rattle.folding.proofs.Trees.{under_empty}

module _ {L : Type 0} (leg : List ℕ → L) (slots : List (List ℕ)) where
  pub length_cells : length (cells leg slots) ≡ 2 * length slots
  unfolding cells
  length_cells = length-map-range_with_len (λ i. leg (under slots i)) 0 (2 * length slots)

  pub get_or_cells : (i : ℕ) (d : L) → i < 2 * length slots → get_or (cells leg slots) i d ≡ leg (under slots i)
  unfolding cells
  get_or_cells i d lt = get_or-map-range_with_len (λ i. leg (under slots i)) 0 (2 * length slots) i i d lt (omega arith)

  pub cells_from_each : (all : List L) → length all ≡ 2 * length slots → ((i : ℕ) → i < 2 * length slots → get_or all i (leg []) ≡ leg (under slots i)) → all ≡ cells leg slots
  unfolding cells
  cells_from_each all long each = fill_by_all (λ i. leg (under slots i)) all (2 * length slots) (leg []) long each

  pub half_cells : (all : List L) → all ≡ cells leg slots → half all ≡ length slots
  half_cells all is = let long = ap length is ∙ length_cells in omega arith

-- what is filled by calls of a closure that always answers y, and stays as it is
pub filled : {F X : Type 0} (R : F → X → F → Type 0) (y : X) (f : F) → ((x : X) (v : F) → R f x v → (x ≡ y) × (v ≡ f)) → (xs : List X) (last : F) → FoldsTo R f xs last → xs ≡ replicate (length xs) y
filled R y f same [] last ran = refl
filled R y f same (x ∷ xs) last ran =
    let call = same x ran.0 ran.1 in
    let rest = filled R y f same xs last (subst (λ q. FoldsTo R q xs last) call.1 ran.2) in
    (λ i. call.0 i ∷ rest i)

-- every cell is the empty text's
pub cleared : {L : Type 0} (leg : List ℕ → L) (was is : List L) → length is ≡ length was → is ≡ replicate (length is) (leg []) → Clears leg was is
cleared leg was is long all = (
  all ∙ ap (λ n. replicate n (leg [])) long,
  λ n wide.
      let slots : List (List ℕ) = replicate n [] in
      let same : length slots ≡ n = length-replicate n [] in
      cells_from_each leg slots is (omega arith)
      (λ k lt. ap (λ l. get_or l k (leg [])) all ∙ get_or-replicate (length is) k (leg []) (leg []) (omega arith) ∙ sym (ap leg (under_empty n k))),
)
