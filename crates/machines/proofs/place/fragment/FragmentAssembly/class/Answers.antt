use Rattle.std.proofs.lemmas.Option.{MatchOption-at_some}
use Rattle.machines.proofs.place.fragment.FragmentAssembly.class.Goals as goal

pub returns-in-Some : goal.returns-in-Some
returns-in-Some c = record { value = λ s some holds. c.place.ensures.value s some (MatchOption-at_some _ _ _ c.in-Some.is (c.of.ensures.value s holds)) }
