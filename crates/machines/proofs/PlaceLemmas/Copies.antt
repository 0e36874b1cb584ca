-- A counted repeat as copies, one after the other: so many that must be there, and then some that may. Assumes nothing.
use Rattle.std.proofs.Common.{◌≡◌, ℕ, Option, zero, suc, ◌+◌, ◌-◌, ◌*◌, ◌≤◌, sym, refl, ap, ◌∙◌, suc-mul, add-mul, zero-mul, arith}
use Rattle.notation.specs.Expressions.{Expr, seq, opt, counted, Regex}
use Rattle.notation.specs.Places.{places}
use Rattle.machines.specs.declared.place.fragment.Numbered.{Numbered}
use Rattle.machines.specs.Soundness.{Sane}
use Rattle.machines.specs.Place.Spellings.{copies, series, spread}
use Rattle.machines.specs.Place.Standing.{StandsFor}
use Rattle.machines.proofs.PlaceLemmas.Standing.{same_stands}

places_copies : {S : Type 0} (n : ℕ) (e : Expr S) → places (copies n e) ≡ n * places e
places_copies zero e = sym (zero-mul (places e))
places_copies (suc n) e = let z = suc-mul n (places e) in let i = places_copies n e in omega arith

spread_copies : {S : Type 0} (n : ℕ) (e : Expr S) (k : ℕ) → spread k (copies n e) ≡ series (λ j. spread j e) (places e) n k
spread_copies zero e k = refl
spread_copies (suc n) e k = ap (seq (spread k e)) (spread_copies n e (k + places e))

spread_counted : (m n : ℕ) (e : Regex) → spread 1 (seq (copies m e) (copies (n - m) (opt e))) ≡ spread 1 (counted m n e)
spread_counted m n e =
    let second : spread (1 + places (copies m e)) (copies (n - m) (opt e)) ≡ series (λ j. opt (spread j e)) (places e) (n - m) (1 + m * places e) =
    ap (λ k. spread (1 + k) (copies (n - m) (opt e))) (places_copies m e) ∙ spread_copies (n - m) (opt e) (1 + m * places e) in
    λ i. seq (spread_copies m e 1 i) (second i)

pub counted_stands : (m n : ℕ) (e : Regex) (o : Option Numbered) → m ≤ n → Sane e → StandsFor (seq (copies m e) (copies (n - m) (opt e))) o → StandsFor (counted m n e) o
counted_stands m n e o le sane x =
    let all : m * places e + (n - m) * places e ≡ n * places e = sym (add-mul m (n - m) (places e)) ∙ ap (λ y. y * places e) (let s : m + (n - m) ≡ n = omega arith in s) in
    let first = places_copies m e in
    let second = places_copies (n - m) (opt e) in
    same_stands (seq (copies m e) (copies (n - m) (opt e))) (counted m n e) (λ _. (le, sane)) (omega arith) (spread_counted m n e) o x
