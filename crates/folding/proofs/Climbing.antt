-- One turn of the climb through the cells above a slot. Assumes nothing.
use Rattle.std.proofs.Common.{◌≡◌, ℕ, ◌+◌, ◌*◌, ◌/◌, ◌<◌, ◌≤◌, List, [], length, get_or, set, sym, ap, ◌∙◌, subst, ⊎_elim, arith, get_or-set_other, get_or-set_same}
use Rattle.std.proofs.lemmas.Bool.{cases_eq}
use Rattle.folding.specs.Cells.{under, Above}
use Rattle.folding.specs.Keeping.{half, Ready}
use Rattle.folding.specs.Legs.{Joins}
use Rattle.folding.specs.Texts.{AllBytes}
use Rattle.folding.proofs.Trees.{above_self, above_up, above_le, not_above, tree, bytes_under}

-- the climb began below cell `top` of the cells `was`, and has come to cell i
pub record Rising {L : Type 0} (leg : List ℕ → L) (top : ℕ) (was : List L) (i : ℕ) (is : List L) : Type 0 where
  pub low : 2 * i + 1 < 2 * half was
  pub path : (k : ℕ) → Above k i → Above k top
  pub kept : (k : ℕ) (d : L) → (Above k top → ⊥) → get_or is k d ≡ get_or was k d
  pub legs : (slots : List (List ℕ)) → AllBytes slots → half was ≡ length slots → Ready leg slots top was → Ready leg slots i is

-- cell i is written anew
pub rising_more : {L : Type 0} (leg : List ℕ → L) (top : ℕ) (was : List L) (i : ℕ) (is : List L) (left right j : L) → Rising leg top was i is → length is ≡ length was → 1 ≤ i → left ≡ get_or is (2 * i) left → right ≡ get_or is (2 * i + 1) right → Joins leg left right j → Rising leg top was (i / 2) (set is i j)
rising_more {L} leg top was i is left right j r long pos first second joins = record {
  low = let low = r.low in omega arith;
  path = λ k a. r.path k (above_up k i a);
  kept = λ k d off. get_or-set_other is i k j d (λ e. off (r.path k (subst (λ x. Above x i) (sym e) (above_self i pos)))) ∙ r.kept k d off;
  legs = λ slots bytes wide ready k lt off. ⊎_elim (at_i slots bytes wide ready k) (λ ne. get_or-set_other is i k j (leg []) ne ∙ r.legs slots bytes wide ready k lt (not_above k i off ne)) (cases_eq k i);
}
  where
    child : (slots : List (List ℕ)) → AllBytes slots → half was ≡ length slots → Ready leg slots top was → (m : ℕ) (x : L) → i < m → m ≤ 2 * i + 1 → x ≡ get_or is m x → x ≡ leg (under slots m)
    child slots bytes wide ready m x over in' read = let low = r.low in Rattle.std.proofs.lemmas.List.get_or_read is m x (omega arith) read (leg []) ∙ r.legs slots bytes wide ready m (omega arith) (λ a. let le = above_le m i a in omega arith)

    at_i : (slots : List (List ℕ)) → AllBytes slots → half was ≡ length slots → Ready leg slots top was → (k : ℕ) → k ≡ i → get_or (set is i j) k (leg []) ≡ leg (under slots k)
    at_i slots bytes wide ready k e =
        let low = r.low in
        let in' : i < length is = omega arith in
        ap (λ x. get_or (set is i j) x (leg [])) e
        ∙ get_or-set_same is i j (leg []) in'
        ∙ joins (under slots (2 * i)) (under slots (2 * i + 1)) (bytes_under slots (2 * i) bytes) (bytes_under slots (2 * i + 1) bytes)
        (child slots bytes wide ready (2 * i) left (omega arith) (omega arith) first)
        (child slots bytes wide ready (2 * i + 1) right (omega arith) (omega arith) second)
        ∙ ap leg (sym ((tree slots).inner i pos (omega arith)))
        ∙ ap (λ x. leg (under slots x)) (sym e)

-- the climb has come to the end
pub risen : {L : Type 0} (leg : List ℕ → L) (top : ℕ) (was : List L) (i : ℕ) (is : List L) → Rising leg top was i is → i ≡ 0 → (slots : List (List ℕ)) → AllBytes slots → half was ≡ length slots → Ready leg slots top was → Ready leg slots 0 is
risen leg top was i is r end slots bytes wide ready k lt off = r.legs slots bytes wide ready k lt (λ a. off (subst (Above k) end a))
