use Rattle.std.proofs.Common.{[], ◌∷◌, ◌++◌}
use Rattle.pattern.specs.Members.{so_far}
use Rattle.pattern.proofs.NameBytes.{BeginsNone}
use Rattle.pattern.proofs.spelling.Spelled.then.Given as goal

abbrev pub invariant-loop-name : goal.invariant-loop-name
invariant-loop-name l = BeginsNone (so_far l.self ++ l.byte ∷ []) l.name-index
