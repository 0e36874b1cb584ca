use mathlib.Core.Logic.{∥∥₁_elim, ∥∥₁_map₂}
use Rattle.std.proofs.Common.{sym, refl, ap, ◌∙◌, subst, arith}
use Rattle.std.specs.Option.{option_copied}
use Rattle.std.proofs.lemmas.Option.{MatchOption-at_some}
use Rattle.machines.specs.Place.Operations.{Later}
use Rattle.machines.proofs.place.fragment.Fragment.combined.Goals as goal

pub invariant_of-result : goal.invariant_of-result
invariant_of-result g c =
    let a = c.in_ok-own.own.now in
    let b = c.in_ok-other.other.now in
    let moved = subst (λ n. Later n b.tables c.later.result) c.from.ensures c.later.ensures.members in
    record {
      small = omega arith;
      part =
          ∥∥₁_elim c.requires.makes squash₁
          (λ m.
          ∥∥₁_map₂ a.part b.part
          (λ x y.
          (m.0 x.0 y.0, m.1.tables x.0 y.0 a.tables b.tables c.later.result c.operation.result a.count b.count x.1 y.1 (omega arith) moved (_, _, c.operation.ensures, refl, refl))));
    }

pub returns-then-count-gt-MOST_PLACES : goal.returns-then-count-gt-MOST_PLACES
returns-then-count-gt-MOST_PLACES g c = record {
  value = λ make makes e f x y.
      let own = MatchOption-at_some _ _ _ (sym c.as_ref.ensures.value ∙ ap option_copied c.in_ok-own.was) x in
      let other = MatchOption-at_some _ _ _ (sym c.as_ref-2.ensures.value ∙ ap option_copied c.in_ok-other.was) y in
      let m = own.count in
      let n = other.count in
      let both = makes.places e f in
      (makes.sane e f own.sane other.sane, omega arith);
}

pub returns : goal.returns
returns g c =
    let a = c.in_ok-own.own.now in
    let b = c.in_ok-other.other.now in
    let moved = subst (λ n. Later n b.tables c.later.result) c.from.ensures c.later.ensures.members in
    record {
      value = λ make makes e f x y.
          makes.tables e f a.tables b.tables c.later.result c.operation.result a.count b.count (MatchOption-at_some _ _ _ (sym c.as_ref.ensures.value ∙ ap option_copied c.in_ok-own.was) x) (MatchOption-at_some _ _ _ (sym c.as_ref-2.ensures.value ∙ ap option_copied c.in_ok-other.was) y) (omega arith) moved
          (_, _, c.operation.ensures, refl, refl);
    }
