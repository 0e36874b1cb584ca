-- What comes of a pattern once it is read, and once its sets or its starts are built. Assumes nothing.
use Rattle.std.proofs.Common.{◌≡◌, ℕ, ◌*◌, ◌/◌, ◌≤◌, ◌↔◌, List, length, Err, Result, subst, sym, ◌∙◌, ap, inl, inr, ⊎_elim, arith}
use Rattle.fault.specs.declared.Fault.{Fault}
use Rattle.fault.specs.declared.Refusal.TheVariants.{TooManySets, TooManyStarts}
use Rattle.law.specs.Order.{AfterReading, AfterSets, AfterStarts}
use Rattle.law.specs.Whole.{OfPattern}
use Rattle.machines.specs.Place.Tables.{TablesOf}
use Rattle.machines.specs.Reached.{MoreSets}
use Rattle.machines.specs.Set.Building.{MoreMasks, SetsRefused}
use Rattle.machines.specs.Set.Runs.{moved_by}
use Rattle.machines.specs.Set.Starting.{StartsReached}
use Rattle.machines.specs.Soundness.{Sane}
use Rattle.machines.specs.declared.place.tables.Tables.{Tables}
use Rattle.notation.specs.Expressions.{Regex}
use Rattle.notation.specs.Reading.{ReadAs, Granted, Refused}
use Rattle.starts.specs.Building.{MoreMaps, StartsRefused, unbuilt}

-- of tables of the right lengths a build tells only that too much is reached
sets_refused : (t : Tables) (sets moves sets' moves' : List ℕ) (f : Fault) → length sets ≡ 64 → length moves ≡ 16384 → SetsRefused t sets moves f sets' moves' → MoreMasks t × (f ≡ unbuilt TooManySets 0)
sets_refused t sets moves sets' moves' f long rows refused =
    ⊎_elim (λ x. absurd (x.0 long)) (λ y. ⊎_elim (λ x. absurd (x.1 rows)) (λ x. (x.2, x.3)) y) refused

starts_refused : (n k : ℕ) (moved : ℕ → ℕ → ℕ) (maps moves maps' moves' : List ℕ) (f : Fault) → 1 ≤ n → n ≤ 512 → length maps ≡ 64 * n → length moves ≡ 256 * n → StartsRefused k moved maps moves f maps' moves' → MoreMaps k moved n × (f ≡ unbuilt TooManyStarts n)
starts_refused n k moved maps moves maps' moves' f some most long rows refused =
    ⊎_elim (λ x. absurd (x.0 n (some, most, long)))
    (λ y.
    let is : y.0 ≡ n = let has = y.1.2 in omega (arith, has, long) in
    ⊎_elim (λ x. absurd (x.0 (rows ∙ ap (λ r. 256 * r) (sym is)))) (λ x. (subst (MoreMaps k moved) is x.1, x.2 ∙ ap (unbuilt TooManyStarts) is)) y.2)
    refused

module _ {X : Type 0} {r : Result X Fault} where
  -- the fault f, passed on as g
  pub unread : {p : List ℕ} (A : Regex → Result X Fault → Type 0) {f g : Fault} → Refused p f → r ≡ Err g → g ≡ f → AfterReading p A r
  unread {p} A {f} {g} refused is e = inl (f, refused, is ∙ ap Err e)

  -- `held` is what the record holds
  pub under : {p held : List ℕ} {n : ℕ} (A : Regex → Result X Fault → Type 0) → Granted p n → held ≡ p → ((e : Regex) → ReadAs held e → A e r) → AfterReading p A r
  under {p} {held} {n} A (e, read, _) holds after = inr (e, read, after e (subst (λ x. ReadAs x e) (sym holds) read))

  module _ (A : Regex → Result X Fault → Type 0) {p : List ℕ} {e : Regex} {t : Tables} (of : OfPattern p t) (read : ReadAs p e) where
    module _ (reached : (e : Regex) → Sane e → TablesOf e t → MoreMasks t ↔ MoreSets 64 e) where
      pub no_sets : {sets moves sets' moves' : List ℕ} {f g : Fault} → length sets ≡ 64 → length moves ≡ 16384 → SetsRefused t sets moves f sets' moves' → r ≡ Err g → g ≡ f → AfterSets A e r
      no_sets long rows refused is e' =
          let tables = of.1 e read.written in
          let more = sets_refused t _ _ _ _ _ long rows refused in
          inl ((reached e tables.0 tables.1).0 more.0, is ∙ ap Err (e' ∙ more.1))

      pub with_sets : (MoreMasks t → ⊥) → A e r → AfterSets A e r
      with_sets few after = let tables = of.1 e read.written in inr (λ more. few ((reached e tables.0 tables.1).1 more), after)

    module _ (k : ℕ) (steps : List ℕ) (reached : StartsReached t k steps) where
      pub no_starts : {n : ℕ} {maps moves maps' moves' : List ℕ} {f g : Fault} → 1 ≤ n → n ≤ 512 → length maps ≡ 64 * n → length moves ≡ 256 * n → StartsRefused k (moved_by steps) maps moves f maps' moves' → r ≡ Err g → g ≡ f → AfterStarts n A e r
      no_starts {n} some most long rows refused is e' =
          let tables = of.1 e read.written in
          let more = starts_refused n k (moved_by steps) _ _ _ _ _ some most long rows refused in
          inl ((reached e tables.0 tables.1 n).0 more.0, is ∙ ap Err (e' ∙ more.1))

      pub with_starts : {n : ℕ} (maps : List ℕ) → length maps ≡ 64 * n → (MoreMaps k (moved_by steps) (length maps / 64) → ⊥) → A e r → AfterStarts n A e r
      with_starts {n} maps long few after =
          let tables = of.1 e read.written in
          let rows : length maps / 64 ≡ n = omega (arith, long) in
          inr (λ more. few (subst (MoreMaps k (moved_by steps)) (sym rows) ((reached e tables.0 tables.1 n).1 more)), after)
