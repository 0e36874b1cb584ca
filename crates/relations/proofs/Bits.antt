-- The members of masks: of a union, an intersection, one bit, and that a mask is told by its members. Assumes nothing.
use Rattle.std.specs.Prelude.{◌≡◌, ℕ, ◌+◌, ◌/◌, ◌%◌, ◌^◌, ◌<◌, ◌⊎◌, ◌↔◌, ◌≢◌, refl}
use Rattle.std.proofs.Common.{sym, ap, subst, ◌∙◌, inl, inr, ⊎_elim, arith}
use Rattle.std.proofs.Math.Arith.{bin_ind}
use Rattle.std.specs.Int.{bit_at}
use Rattle.std.specs.Int.Bits.{bit_and, bit_or}
use Rattle.std.proofs.lemmas.Nat.Bits.{bit_at_and, bit_at_or, bit_at-zero, bit_at_above, bit_at-pow_same, bit_at-pow_other, bit_at_lowest, bit_at-lt, same_from_bits}
use Rattle.std.proofs.lemmas.Nat.{shr-shr}
use Rattle.std.proofs.lemmas.Bool.{cases_lt, cases_eq}
use Rattle.relations.specs.Masks.{Has}

pub has_cases : (a q : ℕ) → Has a q ⊎ (Has a q → ⊥)
has_cases a q = cases_eq (bit_at a q) 1

pub or_has : (a b q : ℕ) → Has (bit_or a b) q → Has a q ⊎ Has b q
or_has a b q h = let e = bit_at_or a b q in ⊎_elim inl (λ no_a. inr (omega arith)) (has_cases a q)

pub has_or_left : (a b q : ℕ) → Has a q → Has (bit_or a b) q
has_or_left a b q h = let e = bit_at_or a b q in let l = bit_at-lt b q in omega arith

pub has_or_right : (a b q : ℕ) → Has b q → Has (bit_or a b) q
has_or_right a b q h = let e = bit_at_or a b q in let l = bit_at-lt a q in omega arith

pub and_has : (a b q : ℕ) → Has (bit_and a b) q → Has a q × Has b q
and_has a b q h = let e = bit_at_and a b q in let l = bit_at-lt a q in let m = bit_at-lt b q in (omega arith, omega arith)

pub has_and : (a b q : ℕ) → Has a q → Has b q → Has (bit_and a b) q
has_and a b q h j = let e = bit_at_and a b q in omega arith

pub zero_has : (q : ℕ) → Has 0 q → ⊥
zero_has q h = let e = bit_at-zero q in omega arith

pub has_below : (a k q : ℕ) → a < 2 ^ k → Has a q → q < k
has_below a k q lt h = ⊎_elim (λ l. l) (λ le. absurd (let z = bit_at_above a k q lt le in omega arith)) (cases_lt q k)

-- one bit

pub has_power : (k : ℕ) → Has (2 ^ k) k
has_power k = bit_at-pow_same k

pub power_has : (k q : ℕ) → Has (2 ^ k) q → q ≡ k
power_has k q h = ⊎_elim (λ e. e) (λ ne. absurd (let z = bit_at-pow_other k q ne in omega arith)) (cases_eq q k)

-- a mask is told by its members

pub high_bit : (a q : ℕ) → bit_at (a / 2) q ≡ bit_at a (1 + q)
high_bit a q = ap (λ x. x % 2) (shr-shr a 1 q)

pub some_member : (a : ℕ) → (a ≢ 0) → (q : ℕ) × Has a q
some_member = bin_ind (λ n. (n ≢ 0) → (q : ℕ) × Has n q) (λ ne. absurd (ne refl))
    (λ n more ne.
    ⊎_elim
    (λ odd. (0, bit_at_lowest n ∙ odd))
    (λ even. let r = more (λ z. ne (omega arith)) in (1 + r.0, sym (high_bit n r.0) ∙ r.1))
    (cases_eq (n % 2) 1))

same_bit : (a b q : ℕ) → Has a q ↔ Has b q → bit_at a q ≡ bit_at b q
same_bit a b q h =
    ⊎_elim (λ x. let y = h.0 x in x ∙ sym y)
    (λ x. let y : Has b q → ⊥ = λ z. x (h.1 z) in let l = bit_at-lt a q in let m = bit_at-lt b q in omega arith)
    (has_cases a q)

pub same_masks : (a b : ℕ) → ((q : ℕ) → Has a q ↔ Has b q) → a ≡ b
same_masks a b same = same_from_bits a b (λ q. same_bit a b q (same q))

pub or_members : (a b p : ℕ) → Has (bit_or a b) p ↔ (Has a p ⊎ Has b p)
or_members a b p = (or_has a b p, ⊎_elim (has_or_left a b p) (has_or_right a b p))

-- one state alone
pub power_members : (q p : ℕ) → Has (2 ^ q) p ↔ (p ≡ q)
power_members q p = (power_has q p, λ e. subst (Has (2 ^ q)) (sym e) (has_power q))
