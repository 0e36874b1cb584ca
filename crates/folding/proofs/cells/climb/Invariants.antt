use Rattle.std.proofs.Common.{◌/◌}
use Rattle.folding.proofs.Climbing.{Rising}
use Rattle.folding.proofs.cells.climb.Given as goal

abbrev pub invariant-loop-i : goal.invariant-loop-i
invariant-loop-i g l = Rising (g.F.Folding.leg l.folding) (l.from / 2) l.initial.cells l.i l.cells

abbrev pub decreases-loop-i : goal.decreases-loop-i
decreases-loop-i g l = l.i
