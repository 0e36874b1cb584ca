-- The tables of one language or another. Assumes nothing.
use Rattle.std.proofs.Common.{inl, inr, ⊎_elim, arith}
use Rattle.notation.specs.Expressions.{Symbol}
use Rattle.notation.specs.Meaning.{Lang, Union}
use Rattle.machines.specs.declared.place.tables.Tables.{Tables}
use Rattle.machines.specs.Place.Operations.{Either}
use Rattle.machines.specs.Place.Spellings.{Place}
use Rattle.machines.specs.Place.Shown.Joining.{union_first, union_ends, union_follows, union_on, first_larger, ends_larger, follows_larger, on_larger}
use Rattle.machines.proofs.PlaceLemmas.Tabling.{TablesFor}

module _ (L M : Lang (Place Symbol)) (a b r : Tables) (l : TablesFor L a) (m : TablesFor M b) where
  pub either_tables : Either a b r → TablesFor (Union L M) r
  either_tables by = record {
    first = λ p. (
      λ h.
          ⊎_elim
          (λ x. let (s, f) = (l.first p).0 x in (s, first_larger L (Union L M) (λ ps. inl) (p, s) f))
          (λ x. let (s, f) = (m.first p).0 x in (s, first_larger M (Union L M) (λ ps. inr) (p, s) f))
          ((by.rows 0 p (omega arith)).0 h),
      λ f.
          (by.rows 0 p (omega arith)).1
          (⊎_elim (λ x. inl ((l.first p).1 (f.0, x))) (λ x. inr ((m.first p).1 (f.0, x))) (union_first L M (p, f.0) f.1)),
    );
    follow = λ q p low high. (
      λ h.
          ⊎_elim
          (λ x. let (s, u, f) = (l.follow q p low high).0 x in (s, u, follows_larger L (Union L M) (λ ps. inl) (q, s) (p, u) f))
          (λ x. let (s, u, f) = (m.follow q p low high).0 x in (s, u, follows_larger M (Union L M) (λ ps. inr) (q, s) (p, u) f))
          ((by.rows q p high).0 h),
      λ f.
          (by.rows q p high).1
          (⊎_elim (λ x. inl ((l.follow q p low high).1 (f.0, f.1, x))) (λ x. inr ((m.follow q p low high).1 (f.0, f.1, x))) (union_follows L M (q, f.0) (p, f.1) f.2)),
    );
    takes = λ c p byte. (
      λ h.
          ⊎_elim
          (λ x. let (s, o, k) = (l.takes c p byte).0 x in (s, on_larger L (Union L M) (λ ps. inl) (p, s) o, k))
          (λ x. let (s, o, k) = (m.takes c p byte).0 x in (s, on_larger M (Union L M) (λ ps. inr) (p, s) o, k))
          ((by.takes c p byte).0 h),
      λ f.
          (by.takes c p byte).1
          (⊎_elim (λ x. inl ((l.takes c p byte).1 (f.0, x, f.2))) (λ x. inr ((m.takes c p byte).1 (f.0, x, f.2))) (union_on L M (p, f.0) f.1)),
    );
    ends = λ p low. (
      λ h.
          ⊎_elim
          (λ x. let (s, f) = (l.ends p low).0 x in (s, ends_larger L (Union L M) (λ ps. inl) (p, s) f))
          (λ x. let (s, f) = (m.ends p low).0 x in (s, ends_larger M (Union L M) (λ ps. inr) (p, s) f))
          ((by.accepts p).0 h),
      λ f.
          (by.accepts p).1
          (⊎_elim (λ x. inl ((l.ends p low).1 (f.0, x))) (λ x. inr ((m.ends p low).1 (f.0, x))) (union_ends L M (p, f.0) f.1)),
    );
    initial = (
      λ h. ⊎_elim (λ x. inl (l.initial.0 x)) (λ x. inr (m.initial.0 x)) ((by.accepts 0).0 h),
      λ j. (by.accepts 0).1 (⊎_elim (λ x. inl (l.initial.1 x)) (λ x. inr (m.initial.1 x)) j),
    );
  }
