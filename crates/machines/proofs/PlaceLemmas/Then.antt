-- The tables of one language and then another. Assumes nothing.
use Rattle.std.proofs.Common.{◌≡◌, ℕ, ◌≤◌, Bool, not, ◌==◌, Decides, [], sym, refl, ◌∙◌, subst, inl, inr, ⊎_elim, arith}
use Rattle.std.proofs.lemmas.Bool.{eqb-false, ne_eqb, not-true, not_from_false}
use Rattle.notation.specs.Expressions.{Symbol}
use Rattle.notation.specs.Meaning.{Lang, Joined}
use Rattle.machines.specs.declared.place.tables.Tables.{Tables}
use Rattle.machines.specs.Place.Operations.{Then}
use Rattle.machines.specs.Place.Spellings.{Place}
use Rattle.machines.specs.Place.Shown.Joining.{Inhabited, joined_first, first_left, first_right, joined_ends, ends_left, ends_right, joined_follows, follows_left, follows_right, follows_across, joined_on, joined_on_left, joined_on_right}
use Rattle.machines.specs.Place.Shown.Splits.{both_empty}
use Rattle.machines.proofs.PlaceLemmas.Tabling.{TablesFor}

-- a state other than the initial one is a place
pub is_place : (when : Bool) (q initial : ℕ) → when ≡ not (q == initial) → initial ≡ 0 → Decides when (1 ≤ q)
is_place when q initial is zero = (
  λ h. let other = eqb-false q initial (not-true _ (sym is ∙ h)) in omega arith,
  λ le. is ∙ not_from_false _ (ne_eqb q initial (λ e. omega arith)),
)

module _ (L M : Lang (Place Symbol)) (a b r : Tables) (l : TablesFor L a) (m : TablesFor M b) where
  pub then_tables : Inhabited L → Inhabited M → Then a b r → TablesFor (Joined L M) r
  then_tables some_l some_m by = record {
    first = λ p. (
      λ h.
          ⊎_elim
          (λ x. let (s, f) = (l.first p).0 x in (s, first_left L M (p, s) some_m f))
          (⊎_elim
          (λ x. let (s, f) = (m.first p).0 x.1 in (s, first_right L M (p, s) (l.initial.0 x.0) f))
          (λ x. absurd (let z = x.0 in omega arith)))
          ((by.rows 0 p (omega arith)).0 h),
      λ f.
          (by.rows 0 p (omega arith)).1
          (⊎_elim
          (λ x. inl ((l.first p).1 (f.0, x)))
          (λ x. inr (inl (l.initial.1 x.0, (m.first p).1 (f.0, x.1))))
          (joined_first L M (p, f.0) f.1)),
    );
    follow = λ q p low high. (
      λ h.
          ⊎_elim
          (λ x. let (s, u, f) = (l.follow q p low high).0 x in (s, u, follows_left L M (q, s) (p, u) some_m f))
          (⊎_elim
          (λ x. let (s, f) = (l.ends q low).0 x.0 in let (u, g) = (m.first p).0 x.1 in (s, u, follows_across L M (q, s) (p, u) f g))
          (λ x. let (s, u, f) = (m.follow q p low high).0 x.1 in (s, u, follows_right L M (q, s) (p, u) some_l f)))
          ((by.rows q p high).0 h),
      λ f.
          (by.rows q p high).1
          (⊎_elim
          (λ x. inl ((l.follow q p low high).1 (f.0, f.1, x)))
          (⊎_elim
          (λ x. inr (inl ((l.ends q low).1 (f.0, x.0), (m.first p).1 (f.1, x.1))))
          (λ x. inr (inr (low, (m.follow q p low high).1 (f.0, f.1, x)))))
          (joined_follows L M (q, f.0) (p, f.1) f.2)),
    );
    takes = λ c p byte. (
      λ h.
          ⊎_elim
          (λ x. let (s, o, k) = (l.takes c p byte).0 x in (s, joined_on_left L M (p, s) some_m o, k))
          (λ x. let (s, o, k) = (m.takes c p byte).0 x in (s, joined_on_right L M (p, s) some_l o, k))
          ((by.takes c p byte).0 h),
      λ f.
          (by.takes c p byte).1
          (⊎_elim
          (λ x. inl ((l.takes c p byte).1 (f.0, x, f.2)))
          (λ x. inr ((m.takes c p byte).1 (f.0, x, f.2)))
          (joined_on L M (p, f.0) f.1)),
    );
    ends = λ p low. (
      λ h.
          ⊎_elim
          (λ x. let (s, f) = (m.ends p low).0 x.1 in (s, ends_right L M (p, s) some_l f))
          (λ x. let (s, f) = (l.ends p low).0 x.1 in (s, ends_left L M (p, s) (m.initial.0 x.0) f))
          ((by.accepts p).0 h),
      λ f.
          (by.accepts p).1
          (⊎_elim
          (λ x. inl (low, (m.ends p low).1 (f.0, x)))
          (λ x. inr (m.initial.1 x.0, (l.ends p low).1 (f.0, x.1)))
          (joined_ends L M (p, f.0) f.1)),
    );
    initial = (
      λ h.
          ⊎_elim
          (λ x. absurd (let z = x.0 in omega arith))
          (λ x. ([], [], refl, l.initial.0 x.1, m.initial.0 x.0))
          ((by.accepts 0).0 h),
      λ j.
          let (u, v, e, x, y) = j in
          let (no-u, no-v) = both_empty u v e in
          (by.accepts 0).1 (inr (m.initial.1 (subst M no-v y), l.initial.1 (subst L no-u x))),
    );
  }
