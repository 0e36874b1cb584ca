use Rattle.std.proofs.Common.{rules}
use Rattle.notation.specs.Expressions.{opt}
use Rattle.machines.proofs.PlaceLemmas.Parts.{optional_changes}
use Rattle.machines.proofs.place.fragment.FragmentAssembly.optional.Goals as goal

pub changed-requires-clause-makes : goal.changed-requires-clause-makes
changed-requires-clause-makes c = ∣ (opt, optional_changes _ (λ a r (p, h, same). (p.now, search rules, same))) ∣₁

pub returns : goal.returns
returns c = record { value = c.changed.ensures.value opt (optional_changes _ (λ a r (p, h, same). (p.now, search rules, same))) }
