use Rattle.notation.specs.Expressions.{Regex}
use Rattle.machines.specs.Place.Spellings.{copies}
use Rattle.machines.specs.Place.Standing.{StandsFor}
use Rattle.machines.proofs.place.fragment.Fragment.repeated.Given as goal

abbrev pub invariant-loop : goal.invariant-loop
invariant-loop l = (e : Regex) → StandsFor e l.self.part → StandsFor (copies l.counter e) l.all.part
