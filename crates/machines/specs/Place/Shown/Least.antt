-- A number that is merely known to exist and can be tested for is found: the least one. Assumes nothing.
use Rattle.std.specs.Prelude.{◌≡◌, ℕ, zero, suc, ◌+◌, ◌<◌, Bool, true, false}
use Rattle.std.proofs.Common.{subst, ⊎_elim, arith, below_more}
use Rattle.std.proofs.Math.Bool.{Bool-set}
use mathlib.Core.HLevel.{Π_prop, ×_prop, Σ_prop_path}
use Rattle.std.proofs.Math.Logic.{∥∥₁_elim}
use Rattle.std.proofs.lemmas.Bool.{cases_Bool, cases_order, both_ways}

module _ (test : ℕ → Bool) where
  abbrev Least : Type 0
  Least = (n : ℕ) × ((test n ≡ true) × ((m : ℕ) → m < n → test m ≡ false))

  least_same : (a b : Least) → a.0 ≡ b.0
  least_same (m, (p, low)) (n, (q, below)) =
      ⊎_elim (λ e. e)
      (⊎_elim (λ lt. absurd (both_ways (test m) (below m lt) p)) (λ gt. absurd (both_ways (test n) (low n gt) q)))
      (cases_order m n)

  least_prop : IsProp Least
  least_prop a b = Σ_prop_path (λ n. ×_prop (Bool-set (test n) true) (Π_prop (λ m. Π_prop (λ lt. Bool-set (test m) false)))) (least_same a b)

  -- none below n passes, and n + d does
  least_from : (n d : ℕ) → ((m : ℕ) → m < n → test m ≡ false) → test (n + d) ≡ true → Least
  least_from n zero low here = (n, (subst (λ x. test x ≡ true) (omega arith) here, low))
  least_from n (suc d) low there =
      ⊎_elim
      (λ here. (n, (here, low)))
      (λ fails. least_from (n + 1) d (below_more (λ m. test m ≡ false) n low fails) (subst (λ x. test x ≡ true) (omega arith) there))
      (cases_Bool (test n))

  pub found : ∥ ((n : ℕ) × (test n ≡ true)) ∥₁ → (n : ℕ) × (test n ≡ true)
  found t =
      let l = ∥∥₁_elim t least_prop (λ x. least_from 0 x.0 (λ m lt. absurd (omega arith)) (subst (λ n. test n ≡ true) (omega arith) x.1)) in
      (l.0, l.1.0)
