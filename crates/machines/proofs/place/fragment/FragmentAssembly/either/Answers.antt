use Rattle.std.proofs.Common.{rules}
use Rattle.notation.specs.Expressions.{alt}
use Rattle.machines.proofs.PlaceLemmas.Parts.{either_combines}
use Rattle.machines.proofs.place.fragment.FragmentAssembly.either.Goals as goal

pub combined-requires-clause-makes : goal.combined-requires-clause-makes
combined-requires-clause-makes c = ∣ (alt, either_combines _ (λ a b r (p, q, h, first, second). (p.now, q.now, search rules, first, second))) ∣₁

pub returns : goal.returns
returns c = record { value = c.combined.ensures.value alt (either_combines _ (λ a b r (p, q, h, first, second). (p.now, q.now, search rules, first, second))) }
