-- The tables of the empty text and of one place. Assumes nothing.
use Rattle.std.proofs.Common.{◌≡◌, ℕ, ◌<◌, ◌↔◌, List, [], ◌∷◌, get_or, set, replicate, sym, refl, ap, ◌∙◌, subst, ⊎_elim, get_or-set_other, arith}
use Rattle.std.proofs.lemmas.List.{get_or-replicate}
use Rattle.std.proofs.lemmas.Bool.{cases_eq}
use Rattle.notation.specs.Expressions.{Symbol, Takes}
use Rattle.notation.specs.Meaning.{Empty}
use Rattle.relations.specs.Masks.{Has, SetOf}
use Rattle.relations.proofs.Bits.{zero_has}
use Rattle.relations.proofs.Combining.{own_members}
use Rattle.machines.specs.declared.place.tables.Tables.{Tables}
use Rattle.machines.specs.Place.Operations.{TablesBy}
use Rattle.machines.specs.Place.Spellings.{On}
use Rattle.machines.specs.Place.Shown.Joining.{none_on, on_first, on_ends, on_before}
use Rattle.machines.specs.Place.Shown.Linear.{Single, single_on, single_follows}
use Rattle.machines.specs.Place.Shown.Splits.{not_empty}
use Rattle.machines.proofs.PlaceLemmas.Tabling.{TablesFor}

-- What is written into the rows.

no_member : (n q p : ℕ) → q < n → Has (get_or (replicate n 0) q 0) p → ⊥
no_member n q p lt h = zero_has p (subst (λ x. Has x p) (get_or-replicate n q 0 0 lt) h)

pub nothing_by : (initial : ℕ) → SetOf initial (λ p. p ≡ 0) → TablesBy (record { follow = replicate 64 0; takes = replicate 256 0; accepts = initial }) (λ q p. ⊥) (λ c p. ⊥) (λ p. p ≡ 0)
nothing_by initial zeroth = record {
  rows = λ q p lt. (no_member 64 q p lt, λ h. absurd h);
  takes = λ c p lt. (no_member 256 c p lt, λ h. absurd h);
  accepts = zeroth.at;
}

module _ (place : ℕ) (one : SetOf place (λ p. p ≡ 1)) where
  one_row : (q p : ℕ) → q < 64 → Has (get_or (set (replicate 64 0) 0 place) q 0) p ↔ ((q ≡ 0) × (p ≡ 1))
  one_row q p lt =
      ⊎_elim
      (λ e.
      let at : get_or (set (replicate 64 0) 0 place) q 0 ≡ place = ap (λ x. get_or (set (replicate 64 0) 0 place) x 0) e in
      (λ h. (e, (one.at p).0 (subst (λ x. Has x p) at h)), λ h. subst (λ x. Has x p) (sym at) ((one.at p).1 h.1)))
      (λ ne.
      let at : get_or (set (replicate 64 0) 0 place) q 0 ≡ 0 = get_or-set_other (replicate 64 0) 0 q place 0 ne ∙ get_or-replicate 64 q 0 0 lt in
      (λ h. absurd (zero_has p (subst (λ x. Has x p) at h)), λ h. absurd (ne h.0)))
      (cases_eq q 0)

  pub place_by : (takes : List ℕ) (initial : ℕ) → initial ≡ 0 → TablesBy (record { follow = set (replicate 64 0) initial place; takes = takes; accepts = place }) (λ q p. (q ≡ 0) × (p ≡ 1)) (λ c p. Has (get_or takes c 0) p) (λ p. p ≡ 1)
  place_by takes initial e =
      subst (λ s. TablesBy (record { follow = set (replicate 64 0) s place; takes = takes; accepts = place }) (λ q p. (q ≡ 0) × (p ≡ 1)) (λ c p. Has (get_or takes c 0) p) (λ p. p ≡ 1))
      (sym e) (record { rows = one_row; takes = λ c p lt. (own_members (get_or takes c 0)).at p; accepts = one.at })

-- No place: only state 0 accepts.

pub nothing_tables : (r : Tables) → TablesBy r (λ q p. ⊥) (λ c p. ⊥) (λ p. p ≡ 0) → TablesFor Empty r
nothing_tables r by = record {
  first = λ p. (λ h. absurd ((by.rows 0 p (omega arith)).0 h), λ f. absurd (none_on (p, f.0) (on_first Empty (p, f.0) f.1)));
  follow = λ q p low high. (λ h. absurd ((by.rows q p high).0 h), λ f. absurd (none_on (q, f.0) (on_before Empty (q, f.0) (p, f.1) f.2)));
  takes = λ c p byte. (λ h. absurd ((by.takes c p byte).0 h), λ f. absurd (none_on (p, f.0) f.1));
  ends = λ p low. (λ h. absurd (let z = (by.accepts p).0 h in omega arith), λ f. absurd (none_on (p, f.0) (on_ends Empty (p, f.0) f.1)));
  initial = (λ h. refl, λ j. (by.accepts 0).1 refl);
}

-- Place 1 alone.

pub place_tables : (s : Symbol) (r : Tables) → TablesBy r (λ q p. (q ≡ 0) × (p ≡ 1)) (λ c p. (p ≡ 1) × Takes s c) (λ p. p ≡ 1) → TablesFor (Single (1, s)) r
place_tables s r by = record {
  first = λ p. (
    λ h. (s, ([], here p ((by.rows 0 p (omega arith)).0 h).1)),
    λ f. (by.rows 0 p (omega arith)).1 (refl, sym (number p f.0 (on_first (Single (1, s)) (p, f.0) f.1))),
  );
  follow = λ q p low high. (
    λ h. absurd (let z = ((by.rows q p high).0 h).0 in omega arith),
    λ f. absurd (single_follows (1, s) (q, f.0) (p, f.1) f.2),
  );
  takes = λ c p byte. (
    λ h. let (e, k) = (by.takes c p byte).0 h in (s, ([], [], here p e), k),
    λ f. (by.takes c p byte).1 (sym (number p f.0 f.1), subst (λ x. Takes x c) (sym (ap (λ x. x.1) (single_on (1, s) (p, f.0) f.1))) f.2),
  );
  ends = λ p low. (
    λ h. (s, ([], here p ((by.accepts p).0 h))),
    λ f. (by.accepts p).1 (sym (number p f.0 (on_ends (Single (1, s)) (p, f.0) f.1))),
  );
  initial = (λ h. absurd (let z = (by.accepts 0).0 h in omega arith), λ j. absurd (not_empty (sym j.1)));
}
  where
    here : (p : ℕ) → p ≡ 1 → Single (1, s) ((p, s) ∷ [])
    here p e = ((p, s), refl, (λ i. (sym e i, s)))

    number : (p : ℕ) (x : Symbol) → On (Single (1, s)) (p, x) → 1 ≡ p
    number p x o = ap (λ y. y.0) (single_on (1, s) (p, x) o)
