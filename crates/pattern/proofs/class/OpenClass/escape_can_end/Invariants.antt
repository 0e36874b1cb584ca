use Rattle.notation.specs.Expressions.{Symbol}
use Rattle.pattern.specs.Classes.{Makes}
use Rattle.pattern.proofs.ClassTests.{NoneEnds}
use Rattle.pattern.proofs.class.OpenClass.escape_can_end.Given as goal

abbrev pub invariant-loop-last : goal.invariant-loop-last
invariant-loop-last l = (s : Symbol) → Makes l.self s → NoneEnds s l.first l.last
