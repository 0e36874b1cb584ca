-- The tables of a language or nothing. Assumes nothing.
use Rattle.std.proofs.Common.{refl, inl, inr, ⊎_elim, arith}
use Rattle.notation.specs.Expressions.{Symbol}
use Rattle.notation.specs.Meaning.{Lang, Empty, Union}
use Rattle.machines.specs.declared.place.tables.Tables.{Tables}
use Rattle.machines.specs.Place.Operations.{Optional}
use Rattle.machines.specs.Place.Spellings.{Place}
use Rattle.machines.specs.Place.Shown.Joining.{union_first, union_ends, union_follows, union_on, first_larger, ends_larger, follows_larger, on_larger, none_on, on_first, on_ends, on_before}
use Rattle.machines.proofs.PlaceLemmas.Tabling.{TablesFor}

module _ (L : Lang (Place Symbol)) (a r : Tables) (l : TablesFor L a) where
  pub optional_tables : Optional a r → TablesFor (Union L Empty) r
  optional_tables by = record {
    first = λ p. (
      λ h. let (s, f) = (l.first p).0 ((by.rows 0 p (omega arith)).0 h) in (s, first_larger L (Union L Empty) (λ ps. inl) (p, s) f),
      λ f.
          (by.rows 0 p (omega arith)).1
          ((l.first p).1 (f.0, ⊎_elim (λ x. x) (λ x. absurd (none_on (p, f.0) (on_first Empty (p, f.0) x))) (union_first L Empty (p, f.0) f.1))),
    );
    follow = λ q p low high. (
      λ h. let (s, u, f) = (l.follow q p low high).0 ((by.rows q p high).0 h) in (s, u, follows_larger L (Union L Empty) (λ ps. inl) (q, s) (p, u) f),
      λ f.
          (by.rows q p high).1
          ((l.follow q p low high).1 (f.0, f.1, ⊎_elim (λ x. x) (λ x. absurd (none_on (q, f.0) (on_before Empty (q, f.0) (p, f.1) x))) (union_follows L Empty (q, f.0) (p, f.1) f.2))),
    );
    takes = λ c p byte. (
      λ h. let (s, o, k) = (l.takes c p byte).0 ((by.takes c p byte).0 h) in (s, on_larger L (Union L Empty) (λ ps. inl) (p, s) o, k),
      λ f. (by.takes c p byte).1 ((l.takes c p byte).1 (f.0, ⊎_elim (λ x. x) (λ x. absurd (none_on (p, f.0) x)) (union_on L Empty (p, f.0) f.1), f.2)),
    );
    ends = λ p low. (
      λ h.
          let x = ⊎_elim (λ y. y) (λ z. absurd (omega arith)) ((by.accepts p).0 h) in
          let (s, f) = (l.ends p low).0 x in
          (s, ends_larger L (Union L Empty) (λ ps. inl) (p, s) f),
      λ f. (by.accepts p).1 (inl ((l.ends p low).1 (f.0, ⊎_elim (λ x. x) (λ x. absurd (none_on (p, f.0) (on_ends Empty (p, f.0) x))) (union_ends L Empty (p, f.0) f.1)))),
    );
    initial = (λ h. inr refl, λ j. (by.accepts 0).1 (inr refl));
  }
