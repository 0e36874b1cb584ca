use mathlib.Core.Logic.{∥∥₁_map₂}
use Rattle.std.proofs.Common.{sym, refl, ap, ◌∙◌}
use Rattle.std.specs.Option.{option_copied}
use Rattle.std.proofs.lemmas.Option.{MatchOption-at_some}
use Rattle.machines.proofs.place.fragment.Fragment.changed.Goals as goal

pub invariant_of-result : goal.invariant_of-result
invariant_of-result g c =
    let a = c.in_ok-own.own.now in
    record { small = a.small; part = ∥∥₁_map₂ a.part c.requires.makes (λ x m. (m.0 x.0, m.1.tables x.0 a.tables c.operation.result a.count x.1 (_, c.operation.ensures, refl))) }

pub returns : goal.returns
returns g c =
    let a = c.in_ok-own.own.now in
    record {
      value = λ make makes e x. makes.tables e a.tables c.operation.result a.count (MatchOption-at_some _ _ _ (sym c.as_ref.ensures.value ∙ ap option_copied c.in_ok-own.was) x) (_, c.operation.ensures, refl);
    }
