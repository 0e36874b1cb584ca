-- The spellings of an expression are linear: each place of the written-out expression lies on a spelling, and each walk
-- through the follow relation is one. Assumes nothing.
use Rattle.std.specs.Prelude.{◌≡◌, ℕ, zero, suc, ◌+◌, ◌-◌, ◌*◌, ◌≤◌}
use Rattle.std.proofs.Common.{ap, subst, ◌∙◌, suc-mul, zero-mul, add-mul, arith}
use Rattle.notation.specs.Expressions.{Expr, one, empty, seq, alt, star, plus, opt, counted}
use Rattle.notation.specs.Meaning.{Lang, Empty, Union, Closure, Means}
use Rattle.notation.specs.Places.{places}
use Rattle.machines.specs.Soundness.{Sound}
use Rattle.machines.specs.Place.Spellings.{Place, series, spread, SpellingFrom}
use Rattle.machines.specs.Place.Shown.Linear.{Linear, single_linear, empty_linear, union_linear}
use Rattle.machines.specs.Place.Shown.Chains.{joined_linear, closure_linear}

module _ {S : Type 0} where
  abbrev Mean : Expr (Place S) → Lang (Place S)
  Mean e = Means {S = Place S} {A = Place S} (λ p q. p ≡ q) e

  series_linear : (part : ℕ → Expr (Place S)) (w : ℕ) → ((j : ℕ) → Linear (Mean (part j)) j (j + w)) → (n k : ℕ) → Linear (Mean (series part w n k)) k (k + n * w)
  series_linear part w each zero k = let z = zero-mul w in subst (λ x. Linear {S = S} Empty k x) (omega arith) (empty_linear k)
  series_linear part w each (suc n) k =
      let z = suc-mul n w in
      subst (λ x. Linear (Mean (series part w (suc n) k)) k x) (omega arith)
      (joined_linear (Mean (part k)) (Mean (series part w n (k + w))) k (k + w) (k + w + n * w) (each k) (series_linear part w each n (k + w)) (omega arith) (omega arith))

  opt_linear : (L : Lang (Place S)) (a b : ℕ) → a ≤ b → Linear L a b → Linear (Union L Empty) a b
  opt_linear L a b ab l = union_linear L Empty a b b l (empty_linear b) ab (omega arith)

  pub spread_linear : (ok : S → Type 0) (e : Expr S) → Sound ok e → (k : ℕ) → Linear (SpellingFrom k e) k (k + places e)
  spread_linear ok (one s) h k = single_linear (k, s)
  spread_linear ok empty h k = subst (λ x. Linear {S = S} Empty k x) (omega arith) (empty_linear k)
  spread_linear ok (seq e f) h k =
      subst (λ x. Linear (SpellingFrom k (seq e f)) k x) (omega arith)
      (joined_linear (SpellingFrom k e) (SpellingFrom (k + places e) f) k (k + places e) (k + places e + places f) (spread_linear ok e h.0 k) (spread_linear ok f h.1 (k + places e)) (omega arith) (omega arith))
  spread_linear ok (alt e f) h k =
      subst (λ x. Linear (SpellingFrom k (alt e f)) k x) (omega arith)
      (union_linear (SpellingFrom k e) (SpellingFrom (k + places e) f) k (k + places e) (k + places e + places f) (spread_linear ok e h.0 k) (spread_linear ok f h.1 (k + places e)) (omega arith) (omega arith))
  spread_linear ok (star e) h k = closure_linear (SpellingFrom k e) k (k + places e) (spread_linear ok e h k)
  spread_linear ok (plus e) h k =
      subst (λ x. Linear (SpellingFrom k (plus e)) k x) (omega arith)
      (joined_linear (SpellingFrom k e) (Closure (SpellingFrom (k + places e) e)) k (k + places e) (k + places e + places e) (spread_linear ok e h k) (closure_linear (SpellingFrom (k + places e) e) (k + places e) (k + places e + places e) (spread_linear ok e h (k + places e))) (omega arith) (omega arith))
  spread_linear ok (opt e) h k = opt_linear (SpellingFrom k e) k (k + places e) (omega arith) (spread_linear ok e h k)
  spread_linear ok (counted m n e) h k =
      let le = h.0 in
      let z : n * places e ≡ m * places e + (n - m) * places e = ap (λ x. x * places e) (omega arith) ∙ add-mul m (n - m) (places e) in
      let each = spread_linear ok e h.1 in
      subst (λ x. Linear (SpellingFrom k (counted m n e)) k x) (omega arith)
      (joined_linear (Mean (series (λ j. spread j e) (places e) m k)) (Mean (series (λ j. opt (spread j e)) (places e) (n - m) (k + m * places e)))
      k (k + m * places e) (k + m * places e + (n - m) * places e)
      (series_linear (λ j. spread j e) (places e) each m k)
      (series_linear (λ j. opt (spread j e)) (places e) (λ j. opt_linear (SpellingFrom j e) j (j + places e) (omega arith) (each j)) (n - m) (k + m * places e))
      (omega arith) (omega arith))
