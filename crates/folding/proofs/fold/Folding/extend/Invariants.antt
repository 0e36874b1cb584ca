use Rattle.std.proofs.Common.{take}
use Rattle.folding.specs.Legs.{Extends}
use Rattle.folding.proofs.fold.Folding.extend.Given as goal

abbrev pub invariant-loop-c : goal.invariant-loop-c
invariant-loop-c g l = Extends (g.Self.Folding.leg l.self) l.at (take l.c-index l.text) l.r
