use Rattle.notation.specs.Expressions.{Symbol}
use Rattle.pattern.specs.Members.{so_far}
use Rattle.pattern.specs.Classes.{Makes}
use Rattle.notation.proofs.Spellings.{NonePasses}
use Rattle.notation.specs.ClassAutomaton.{ends_name}
use Rattle.pattern.proofs.class.OpenClass.name_can_end.Given as goal

abbrev pub invariant-loop-name : goal.invariant-loop-name
invariant-loop-name l = (s : Symbol) → Makes l.self s → NonePasses (ends_name s (so_far l.begun)) l.name-index
