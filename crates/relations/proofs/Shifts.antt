-- The members of a shifted mask, and of a mask cut to 64 bits. Assumes nothing.
use Rattle.std.proofs.Common.{◌≡◌, ℕ, ◌+◌, ◌-◌, ◌*◌, ◌/◌, ◌%◌, ◌^◌, ◌<◌, ◌≤◌, ◌↔◌, sym, ap, ◌∙◌, subst, ⊎_elim, arith}
use Rattle.std.specs.Int.{bit_at}
use Rattle.std.proofs.lemmas.Nat.{pow_pos, mod_below}
use Rattle.std.proofs.lemmas.Nat.Bits.{bit_at-zero, bit_at_cat_low, bit_at_cat_high}
use Rattle.std.proofs.lemmas.Bool.{cases_lt}
use Rattle.relations.specs.Masks.{Has, LaterIn}
use Rattle.relations.proofs.Bits.{has_below, high_bit, zero_has}

-- a shift by n in a word of 64 bits
abbrev pub shl : ℕ → ℕ → ℕ
shl a n = a * 2 ^ n % 2 ^ 64

bit_cut : (x p : ℕ) → p < 64 → bit_at (x % 2 ^ 64) p ≡ bit_at x p
bit_cut x p lt = sym (bit_at_cat_low (x / 2 ^ 64) 64 (x % 2 ^ 64) p lt) ∙ ap (λ y. bit_at y p) (let e : x / 2 ^ 64 * 2 ^ 64 + x % 2 ^ 64 ≡ x = omega arith in e)

shl_high : (a n p : ℕ) → n ≤ p → p < 64 → bit_at (shl a n) p ≡ bit_at a (p - n)
shl_high a n p le lt = bit_cut (a * 2 ^ n) p lt ∙ ap (λ y. bit_at y p) (let e : a * 2 ^ n ≡ a * 2 ^ n + 0 = omega arith in e) ∙ bit_at_cat_high a n 0 p (pow_pos n) le

shl_low : (a n p : ℕ) → p < n → p < 64 → bit_at (shl a n) p ≡ 0
shl_low a n p gt lt = bit_cut (a * 2 ^ n) p lt ∙ ap (λ y. bit_at y p) (let e : a * 2 ^ n ≡ a * 2 ^ n + 0 = omega arith in e) ∙ bit_at_cat_low a n 0 p gt ∙ bit_at-zero p

shl_below : (a n : ℕ) → shl a n < 2 ^ 64
shl_below a n = mod_below (a * 2 ^ n) (2 ^ 64) (pow_pos 64)

pub shl_has : (a n p : ℕ) → Has (shl a n) p → (n ≤ p) × (p < 64) × Has a (p - n)
shl_has a n p h =
    let lt = has_below (shl a n) 64 p (shl_below a n) h in
    ⊎_elim
    (λ low. absurd (let z = shl_low a n p low lt in omega arith))
    (λ le. (le, lt, sym (shl_high a n p le lt) ∙ h))
    (cases_lt p n)

pub has_shl : (a n p : ℕ) → n ≤ p → p < 64 → Has a (p - n) → Has (shl a n) p
has_shl a n p le lt h = shl_high a n p le lt ∙ h

-- out goes state 0
pub places_members : (set p : ℕ) → set < 2 ^ 64 → Has (shl (set / 2) 1) p ↔ ((1 ≤ p) × Has set p)
places_members set p fits = (there, back)
  where
    there : Has (shl (set / 2) 1) p → (1 ≤ p) × Has set p
    there h =
        let (one, lt, x) = shl_has (set / 2) 1 p h in
        (one, subst (Has set) (omega arith) (sym (high_bit set (p - 1)) ∙ x))

    back : (1 ≤ p) × Has set p → Has (shl (set / 2) 1) p
    back (one, h) = has_shl (set / 2) 1 p one (has_below set 64 p fits h) (high_bit set (p - 1) ∙ subst (Has set) (omega arith) h)

-- out goes state 0, and the others move on
pub later_members : (set n p : ℕ) → Has (shl (shl (set / 2) n) 1) p ↔ LaterIn n set p
later_members set n p = (there, back)
  where
    there : Has (shl (shl (set / 2) n) 1) p → LaterIn n set p
    there h =
        let (one, lt, x) = shl_has (shl (set / 2) n) 1 p h in
        let (le, lt', y) = shl_has (set / 2) n (p - 1) x in
        (omega arith, lt, subst (Has set) (omega arith) (sym (high_bit set (p - 1 - n)) ∙ y))

    back : LaterIn n set p → Has (shl (shl (set / 2) n) 1) p
    back (lt, high, h) =
        has_shl (shl (set / 2) n) 1 p (omega arith) high
        (has_shl (set / 2) n (p - 1) (omega arith) (omega arith) (high_bit set (p - 1 - n) ∙ subst (Has set) (omega arith) h))

-- past the last number no place is left
pub none_later : (set n p : ℕ) → 64 ≤ n → Has 0 p ↔ LaterIn n set p
none_later set n p far = (λ h. absurd (zero_has p h), λ l. absurd (let past = l.0 in let high = l.1 in omega arith))
