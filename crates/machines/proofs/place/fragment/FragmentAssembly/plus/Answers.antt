use Rattle.notation.specs.Expressions.{star}
use Rattle.machines.proofs.PlaceLemmas.Standing.{plus_stands}
use Rattle.machines.proofs.place.fragment.FragmentAssembly.plus.Goals as goal

pub returns : goal.returns
returns c = record { value = λ e x. plus_stands e _ (c.then.ensures.value e (star e) x (c.star.ensures.value e x)) }
