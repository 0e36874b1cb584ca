-- The symbols of the places of an expression are symbols of the expression, and a sequence of places can be spelled. Assumes nothing.
use Rattle.std.specs.Prelude.{◌≡◌, ℕ, zero, suc, ◌+◌, ◌-◌, ◌*◌, List, [], ◌∷◌, ◌++◌}
use Rattle.std.proofs.Common.{sym, subst, append_assoc, ⊎_elim}
use Rattle.notation.specs.Expressions.{Expr, one, empty, seq, alt, star, plus, opt, counted, Symbol, Takes, TakesSome}
use Rattle.notation.specs.Meaning.{Lang, Empty, Union, Closure, Means}
use Rattle.notation.specs.Places.{places}
use Rattle.folding.specs.Texts.{Bytes}
use Rattle.machines.specs.Soundness.{Sound}
use Rattle.machines.specs.Place.Spellings.{Place, series, spread, SpellingFrom, Spells, On}
use Rattle.machines.specs.Place.Shown.Joining.{none_on, joined_on, union_on}
use Rattle.machines.specs.Place.Shown.Linear.{single_on}
use Rattle.machines.specs.Place.Shown.Repeating.{closure_on}

module _ {S : Type 0} (ok : S → Type 0) where
  abbrev Fine : Lang (Place S) → Type 0
  Fine L = (p : Place S) → On L p → ok p.1

  abbrev Mean : Expr (Place S) → Lang (Place S)
  Mean e = Means {S = Place S} {A = Place S} (λ p q. p ≡ q) e

  opt_fine : (L : Lang (Place S)) → Fine L → Fine (Union L Empty)
  opt_fine L f p h = ⊎_elim (f p) (λ o. absurd (none_on p o)) (union_on L Empty p h)

  series_fine : (part : ℕ → Expr (Place S)) (w : ℕ) → ((j : ℕ) → Fine (Mean (part j))) → (n k : ℕ) → Fine (Mean (series part w n k))
  series_fine part w each zero k p h = absurd (none_on p h)
  series_fine part w each (suc n) k p h = ⊎_elim (each k p) (series_fine part w each n (k + w) p) (joined_on (Mean (part k)) (Mean (series part w n (k + w))) p h)

  pub spread_fine : (e : Expr S) → Sound ok e → (k : ℕ) → Fine (SpellingFrom k e)
  spread_fine (one s) h k p o = subst (λ x. ok x.1) (single_on (k, s) p o) h
  spread_fine empty h k p o = absurd (none_on p o)
  spread_fine (seq e f) h k p o = ⊎_elim (spread_fine e h.0 k p) (spread_fine f h.1 (k + places e) p) (joined_on (SpellingFrom k e) (SpellingFrom (k + places e) f) p o)
  spread_fine (alt e f) h k p o = ⊎_elim (spread_fine e h.0 k p) (spread_fine f h.1 (k + places e) p) (union_on (SpellingFrom k e) (SpellingFrom (k + places e) f) p o)
  spread_fine (star e) h k p o = spread_fine e h k p (closure_on (SpellingFrom k e) p o)
  spread_fine (plus e) h k p o =
      ⊎_elim (spread_fine e h k p) (λ c. spread_fine e h (k + places e) p (closure_on (SpellingFrom (k + places e) e) p c))
      (joined_on (SpellingFrom k e) (Closure (SpellingFrom (k + places e) e)) p o)
  spread_fine (opt e) h k p o = opt_fine (SpellingFrom k e) (spread_fine e h k) p o
  spread_fine (counted m n e) h k p o =
      ⊎_elim
      (series_fine (λ j. spread j e) (places e) (spread_fine e h.1) m k p)
      (series_fine (λ j. opt (spread j e)) (places e) (λ j. opt_fine (SpellingFrom j e) (spread_fine e h.1 j)) (n - m) (k + m * places e) p)
      (joined_on (Mean (series (λ j. spread j e) (places e) m k)) (Mean (series (λ j. opt (spread j e)) (places e) (n - m) (k + m * places e))) p o)

-- what comes behind some places in a member can be spelled in bytes
pub letters : (L : Lang (Place Symbol)) → ((p : Place Symbol) → On L p → TakesSome p.1) → (us ps : List (Place Symbol)) → L (us ++ ps) → (v : List ℕ) × Bytes v × Spells Takes ps v
letters L fine us [] l = ([], tt, tt)
letters L fine us (p ∷ ps) l =
    let more = letters L fine (us ++ (p ∷ [])) ps (subst L (sym (append_assoc us (p ∷ []) ps)) l) in
    let b = fine p (us, ps, l) in
    (b.0 ∷ more.0, (b.1, more.1), (b.2, more.2))
