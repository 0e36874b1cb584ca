-- What a set of bytes holds once ranges or a name are added, and whether it is full. Assumes nothing.
use Rattle.std.proofs.Common.{◌≡◌, ℕ, ◌+◌, ◌<◌, ◌≤◌, ◌⊎◌, Bool, true, false, not, ◌||◌, eqb, List, [], ◌∷◌, ◌++◌, length, get_or, set, ap, ◌∙◌, inl, inr, ⊎_elim, arith}
use Rattle.std.specs.Prelude.{Decides}
use Rattle.std.proofs.lemmas.List.{get_or-set_same, get_or-set_other}
use Rattle.std.proofs.lemmas.Bool.{cases_Bool, cases_eq, both_ways, eqb-true, eq-eqb}
use Rattle.std.proofs.lemmas.Bool.Decides.{Decides-at, Decides-like, Decides-or, Decides-not, same_from_decides, not_from_Decides}
use Rattle.notation.specs.declared.names.Name.{Name}
use Rattle.notation.specs.Expressions.{Range, these, others, InSome}
use Rattle.notation.specs.Names.{ranges, Marks}
use Rattle.notation.specs.ClassAutomaton.{in_some, can_take}
use Rattle.notation.proofs.ByteTests.{in_some_decides}
use Rattle.notation.proofs.CanTake.{Leaves, leaves_decides, in_left, in_right, in_either}
use Rattle.pattern.specs.declared.bytes.ByteSet.{ByteSet}
use Rattle.pattern.specs.ByteSets.{Has, Holds}

in_table : (t : List ℕ) (rs : List Range) → Marks t rs → (c : ℕ) → c < 256 → Decides (eqb (get_or t c 0) 1) (InSome rs c)
in_table t rs marks c lt =
    let (tells, told) = in_some_decides rs c in
    let (one, zero) = marks c lt in (
      λ e. ⊎_elim tells (λ no. let none = zero (λ h. both_ways _ no (told h)) in let is = eqb-true _ 1 e in absurd (omega arith)) (cases_Bool (in_some rs c)),
      λ h. eq-eqb _ 1 (one h),
    )

-- the complement of a set that is not full takes some byte
pub not_full : (b : ByteSet) (rs : List Range) → Holds b (these rs) → (full : Bool) → Decides full ((c : ℕ) → c < 256 → Has b c) → not full ≡ can_take (others rs)
not_full b rs holds full told = same_from_decides (not full) (can_take (others rs)) (Decides-like (not full) leaves (λ (c, lt, out) all. out ((holds c lt).0 (all c lt))) (Decides-not full told)) (leaves_decides rs)
  where
    leaves : (((c : ℕ) → c < 256 → Has b c) → ⊥) → Leaves rs
    leaves not-all =
        ⊎_elim (leaves_decides rs).0
        (λ none. absurd (not-all (λ c lt. (holds c lt).1 (⊎_elim (in_some_decides rs c).0 (λ out. absurd (not_from_Decides _ (leaves_decides rs) none (c, lt, not_from_Decides _ (in_some_decides rs c) out))) (cases_Bool (in_some rs c))))))
        (cases_Bool (can_take (others rs)))

-- a set that has more ranges added
pub joined : (old new : ByteSet) (rs qs : List Range) → ((c : ℕ) → c < 256 → Decides (get_or new.has c false) (Has old c ⊎ InSome qs c)) → Holds old (these rs) → Holds new (these (rs ++ qs))
joined old new rs qs told holds c lt =
    let (tells, held) = holds c lt in
    Decides-like (get_or new.has c false) (⊎_elim (λ h. in_left rs qs c (tells h)) (in_right rs qs c)) (λ h. ⊎_elim (λ l. inl (held l)) inr (in_either rs qs c h)) (told c lt)

-- xs is what old was, and true as well from `low` to `high`, as far as `byte`
abbrev pub Added : List Bool → List Bool → ℕ → ℕ → ℕ → Type 0
Added old xs low high byte = (k : ℕ) → Decides (get_or xs k false) ((get_or old k false ≡ true) ⊎ ((low ≤ k) × (k ≤ high) × (k < byte)))

pub added_more : (old xs : List Bool) (low high byte : ℕ) → low ≤ byte → byte ≤ high → byte < length xs → Added old xs low high byte → Added old (set xs byte true) low high (byte + 1)
added_more old xs low high byte le within lt before k =
    ⊎_elim
    (λ (here : k ≡ byte). (λ _. inr (omega arith, omega arith, omega arith), λ _. ap (λ n. get_or (set xs byte true) n false) here ∙ get_or-set_same xs byte true false lt))
    (λ other.
    Decides-at (get_or (set xs byte true) k false) (get_or xs k false) (get_or-set_other xs byte k true false other)
    (Decides-like (get_or xs k false) (⊎_elim inl (λ (low', high', lt'). inr (low', high', omega arith))) (⊎_elim inl (λ (low', high', lt'). inr (low', high', omega arith))) (before k)))
    (cases_eq k byte)

pub range_added : (old new : ByteSet) (low high byte : ℕ) → high < byte → Added old.has new.has low high byte → (rs : List Range) → Holds old (these rs) → Holds new (these (rs ++ (low, high) ∷ []))
range_added old new low high byte past added rs =
    joined old new rs ((low, high) ∷ [])
    (λ c lt.
    Decides-like (get_or new.has c false) (⊎_elim inl (λ (le, le', _). inr (inl (le, le'))))
    (⊎_elim inl (λ some. ⊎_elim (λ (le, le'). inr (le, le', omega arith)) (λ none. absurd none) some)) (added c))

-- the table's bytes below i are added
abbrev pub Tabled : List Bool → List Bool → List ℕ → ℕ → Type 0
Tabled old xs t i = (k : ℕ) → (k < i → get_or xs k false ≡ (get_or old k false || eqb (get_or t k 0) 1)) × (i ≤ k → get_or xs k false ≡ get_or old k false)

pub named_added : (old new : ByteSet) (t : List ℕ) (n : Name) (i : ℕ) → 256 ≤ i → Marks t (ranges n) → Tabled old.has new.has t i → (rs : List Range) → Holds old (these rs) → Holds new (these (rs ++ ranges n))
named_added old new t n i all marks tabled rs =
    joined old new rs (ranges n) (λ c lt. Decides-at (get_or new.has c false) _ ((tabled c).0 (omega arith)) (Decides-or (get_or old.has c false) (eqb (get_or t c 0) 1) (λ e. e, λ e. e) (in_table t (ranges n) marks c lt)))
