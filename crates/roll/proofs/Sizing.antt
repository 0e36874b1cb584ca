-- The sizes of a roll are powers of two, or none. Assumes nothing.
use Rattle.std.proofs.Common.{◌≡◌, ℕ, ◌^◌, ◌≤◌, Bool, true, ◌||◌, eqb, ◌⊎◌, inl, inr, ⊎_elim, arith, lit≤}
use Rattle.std.proofs.lemmas.Bool.{or_cases, eqb-true}
use Rattle.roll.specs.Sizes.{allowed, sized}

pub record Power (n : ℕ) : Type 0 where
  pub exponent : ℕ
  pub is : n ≡ 2 ^ exponent
  pub few : n ≤ 128

power : (n k : ℕ) → 2 ^ k ≤ 128 → eqb n (2 ^ k) ≡ true → Power n
power n k le e = let is = eqb-true n (2 ^ k) e in record { exponent = k; is = is; few = omega arith }

pub power_of : (n : ℕ) → allowed n ≡ true → Power n
power_of n e =
    next 0 (lit≤ tt) (next 1 (lit≤ tt) (next 2 (lit≤ tt) (next 3 (lit≤ tt) (next 4 (lit≤ tt) (next 5 (lit≤ tt) (next 6 (lit≤ tt) (power n 7 (lit≤ tt)))))))) e
  where
    next : {b : Bool} (k : ℕ) → 2 ^ k ≤ 128 → (b ≡ true → Power n) → (eqb n (2 ^ k) || b) ≡ true → Power n
    next {b} k le rest e = ⊎_elim (power n k le) rest (or_cases (eqb n (2 ^ k)) b e)

pub sized_cases : (n : ℕ) → sized n ≡ true → (n ≡ 0) ⊎ Power n
sized_cases n e = ⊎_elim (λ z. inl (eqb-true n 0 z)) (λ a. inr (power_of n a)) (or_cases (eqb n 0) (allowed n) e)
