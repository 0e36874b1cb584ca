use Rattle.std.proofs.Common.{arith}
use Rattle.notation.specs.Expressions.{empty}
use Rattle.machines.proofs.PlaceLemmas.Parts.{nothing_part}
use Rattle.machines.proofs.place.fragment.FragmentAssembly.nothing.Goals as goal

pub invariant_of-result : goal.invariant_of-result
invariant_of-result c = record { small = omega arith; part = ∣ (empty, nothing_part c.nothing.result c.nothing.ensures.members) ∣₁ }

pub returns : goal.returns
returns c = record { value = nothing_part c.nothing.result c.nothing.ensures.members }
