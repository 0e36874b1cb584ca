-- A list in which nothing stands twice is no longer than one that has all that it has. Assumes nothing.
use Rattle.std.proofs.Common.{◌≡◌, ℕ, zero, suc, ◌≤◌, List, [], ◌∷◌, length, Some, refl, sym, ap, ◌∙◌, arith}
use Rattle.std.specs.List.{slice_get}
use Rattle.std.proofs.lemmas.Option.{none-some}
use Rattle.numbering.proofs.Meeting.{Once}

module _ {X : Type 0} where
  abbrev Has : List X → X → Type 0
  Has ys x = (j : ℕ) × (slice_get ys j ≡ Some x)

  abbrev HasOthers : List X → ℕ → List X → Type 0
  HasOthers ys k zs = (j : ℕ) (y : X) → (j ≡ k → ⊥) → slice_get ys j ≡ Some y → Has zs y

  behind_first : (y : X) (ys : List X) → HasOthers (y ∷ ys) 0 ys
  behind_first y ys zero x other at = absurd (other refl)
  behind_first y ys (suc j) x other at = (j, at)

  behind_same : (y : X) (ys zs : List X) (k : ℕ) → HasOthers ys k zs → HasOthers (y ∷ ys) (suc k) (y ∷ zs)
  behind_same y ys zs k others zero x other at = (0, at)
  behind_same y ys zs k others (suc j) x other at = let h = others j x (λ e. other (ap suc e)) at in (suc h.0, h.1)

  -- what is left of a list without the k-th of it
  without : (ys : List X) (k : ℕ) (x : X) → slice_get ys k ≡ Some x → (zs : List X) × (length ys ≡ suc (length zs)) × HasOthers ys k zs
  without [] k x at = absurd (none-some x at)
  without (y ∷ ys) zero x at = (ys, refl, behind_first y ys)
  without (y ∷ ys) (suc k) x at = let w = without ys k x at in (y ∷ w.0, ap suc w.1, behind_same y ys w.0 k w.2)

  pub once_fits : (xs ys : List X) → Once xs → ((k : ℕ) (x : X) → slice_get xs k ≡ Some x → Has ys x) → length xs ≤ length ys
  once_fits [] ys once has = omega arith
  once_fits (x ∷ xs) ys once has =
      let first = has 0 x refl in
      let w = without ys first.0 x first.1 in
      let once' : Once xs = λ i j p here there. let e : suc i ≡ suc j = once (suc i) (suc j) p here there in omega arith in
      let has' : (k : ℕ) (y : X) → slice_get xs k ≡ Some y → Has w.0 y = λ k y at.
      let h = has (suc k) y at in
      w.2 h.0 y (λ (e : h.0 ≡ first.0).
      let twice : suc k ≡ 0 = once (suc k) 0 y at (sym first.1 ∙ ap (slice_get ys) (sym e) ∙ h.1) in
      omega arith) h.1 in
      let rest : length xs ≤ length w.0 = once_fits xs w.0 once' has' in
      omega (arith, w.1)
