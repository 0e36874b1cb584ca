-- The tables of a language any number of times. Assumes nothing.
use Rattle.std.proofs.Common.{refl, inl, inr, ⊎_elim, arith}
use Rattle.notation.specs.Expressions.{Symbol}
use Rattle.notation.specs.Meaning.{Lang, Closure}
use Rattle.machines.specs.declared.place.tables.Tables.{Tables}
use Rattle.machines.specs.Place.Operations.{Star}
use Rattle.machines.specs.Place.Spellings.{Place}
use Rattle.machines.specs.Place.Shown.Joining.{first_larger, ends_larger, follows_larger, on_larger}
use Rattle.machines.specs.Place.Shown.Repeating.{closure_once, closure_none, closure_first, closure_ends, closure_follows, closure_on, follows_round}
use Rattle.machines.proofs.PlaceLemmas.Tabling.{TablesFor}

module _ (L : Lang (Place Symbol)) (a r : Tables) (l : TablesFor L a) where
  pub star_tables : Star a r → TablesFor (Closure L) r
  star_tables by = record {
    first = λ p. (
      λ h.
          let x = ⊎_elim (λ y. y) (λ y. y.1) ((by.rows 0 p (omega arith)).0 h) in
          let (s, f) = (l.first p).0 x in
          (s, first_larger L (Closure L) (closure_once L) (p, s) f),
      λ f. (by.rows 0 p (omega arith)).1 (inl ((l.first p).1 (f.0, closure_first L (p, f.0) f.1))),
    );
    follow = λ q p low high. (
      λ h.
          ⊎_elim
          (λ x. let (s, u, f) = (l.follow q p low high).0 x in (s, u, follows_larger L (Closure L) (closure_once L) (q, s) (p, u) f))
          (λ x. let (s, f) = (l.ends q low).0 x.0 in let (u, g) = (l.first p).0 x.1 in (s, u, follows_round L (q, s) (p, u) f g))
          ((by.rows q p high).0 h),
      λ f.
          (by.rows q p high).1
          (⊎_elim
          (λ x. inl ((l.follow q p low high).1 (f.0, f.1, x)))
          (λ x. inr ((l.ends q low).1 (f.0, x.0), (l.first p).1 (f.1, x.1)))
          (closure_follows L (q, f.0) (p, f.1) f.2)),
    );
    takes = λ c p byte. (
      λ h. let (s, o, k) = (l.takes c p byte).0 ((by.takes c p byte).0 h) in (s, on_larger L (Closure L) (closure_once L) (p, s) o, k),
      λ f. (by.takes c p byte).1 ((l.takes c p byte).1 (f.0, closure_on L (p, f.0) f.1, f.2)),
    );
    ends = λ p low. (
      λ h.
          let x = ⊎_elim (λ y. y) (λ z. absurd (omega arith)) ((by.accepts p).0 h) in
          let (s, f) = (l.ends p low).0 x in
          (s, ends_larger L (Closure L) (closure_once L) (p, s) f),
      λ f. (by.accepts p).1 (inl ((l.ends p low).1 (f.0, closure_ends L (p, f.0) f.1))),
    );
    initial = (λ h. closure_none L, λ j. (by.accepts 0).1 (inr refl));
  }
