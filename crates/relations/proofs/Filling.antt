-- What `from_fn` makes with a closure that changes nothing that it captures. Assumes nothing.
use Rattle.std.proofs.Common.{◌≡◌, ℕ, zero, suc, ◌+◌, ◌%◌, ◌<◌, ◌≤◌, ◌↔◌, List, get_or, sym, subst, ⊎_elim, arith}
use denote.Param.Members.{Mut, Called}
use Rattle.std.specs.Array.{IsFromFnResult, IsFromFnResultFrom}
use Rattle.std.proofs.lemmas.Bool.{cases_eq}
use Rattle.std.proofs.lemmas.List.FromFn.{fill_by_all}
use Rattle.relations.specs.Masks.{Has, SetOf}
use Rattle.relations.specs.Relations.{rows_of}

-- each call leaves the closure as it was
abbrev Keeps : {F B : Type 0} → Mut F (ℕ × Unit {0}) B → F → ℕ → Type 0
Keeps {F} {B} g f n = (i : ℕ) (y : B) (q : F) → i < n → Called g f (i, tt) y q → q ≡ f

-- a call at i gives what P holds of
abbrev Gives : {F B : Type 0} → Mut F (ℕ × Unit {0}) B → F → ℕ → (ℕ → B → Type 0) → Type 0
Gives {F} {B} g f n P = (i : ℕ) (y : B) (q : F) → i < n → Called g f (i, tt) y q → P i y

module _ {F B : Type 0} {g : Mut F (ℕ × Unit {0}) B} {f : F} {ys : List B} {n : ℕ} (P : ℕ → B → Type 0) (made : IsFromFnResult g f ys n) (keeps : Keeps g f n) (gives : Gives g f n P) where
  entry_from : (i m k : ℕ) → i + m ≡ n → IsFromFnResultFrom g f ys i m → i ≤ k → k < n → (d : B) → P k (get_or ys k d)
  entry_from i zero k end each low high d = absurd (omega arith)
  entry_from i (suc m) k end (q, y, at, called, rest) low high d =
      let low_i : i < n = omega arith in
      ⊎_elim
      (λ e. subst (λ j. P j (get_or ys j d)) (sym e) (subst (P i) (sym (at.1 d)) (gives i y q low_i called)))
      (λ ne. entry_from (i + 1) m k (omega arith) (subst (λ p. IsFromFnResultFrom g p ys (i + 1) m) (keeps i y q low_i called) rest) (omega arith) high d)
      (cases_eq k i)

  -- entry k is what a call at k gives
  entry : (k : ℕ) → k < n → (d : B) → P k (get_or ys k d)
  entry k lt d = entry_from 0 n k (omega arith) made.each (omega arith) lt d

-- the row with the index i, below 64, is that of the state i
at_state : {F : Type 0} {g : Mut F (ℕ × Unit {0}) ℕ} {f : F} (P : ℕ → ℕ → Type 0) → Gives g f 64 (λ k row. P (k % 64) row) → Gives g f 64 P
at_state P gives i y q lt called = subst (λ k. P k y) (let same : i % 64 ≡ i = omega arith in same) (gives i y q lt called)

module _ {F : Type 0} {g : Mut F (ℕ × Unit {0}) ℕ} {f : F} {ys : List ℕ} where
  -- rows that are told by their members
  pub rows_by : {n : ℕ} (R : ℕ → ℕ → Type 0) → IsFromFnResult g f ys n → Keeps g f n → Gives g f n (λ k row. SetOf row (R k)) → (k p : ℕ) → k < n → Has (get_or ys k 0) p ↔ R k p
  rows_by R made keeps gives k p lt = (entry (λ k row. SetOf row (R k)) made keeps gives k lt 0).at p

  -- a row to each state, told by its members
  pub rows_by_state : (R : ℕ → ℕ → Type 0) → IsFromFnResult g f ys 64 → Keeps g f 64 → Gives g f 64 (λ k row. SetOf row (R (k % 64))) → (k p : ℕ) → k < 64 → Has (get_or ys k 0) p ↔ R k p
  rows_by_state R made keeps gives = rows_by R made keeps (at_state (λ k row. SetOf row (R k)) gives)

  -- a row to each state, by a function of its number
  pub rows_made : (h : ℕ → ℕ) → IsFromFnResult g f ys 64 → Keeps g f 64 → Gives g f 64 (λ k row. row ≡ h (k % 64)) → ys ≡ rows_of h
  unfolding rows_of
  rows_made h made keeps gives = fill_by_all h ys 64 0 made.long (λ k lt. entry (λ k row. row ≡ h k) made keeps (at_state (λ k row. row ≡ h k) gives) k lt 0)
