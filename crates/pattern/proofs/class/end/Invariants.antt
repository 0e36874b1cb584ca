use Rattle.std.proofs.Common.{◌≡◌, ◌-◌, length}
use Rattle.pattern.proofs.ClassLoop.{Far}
use Rattle.pattern.proofs.class.end.Given as goal

abbrev pub invariant-loop-here : goal.invariant-loop-here
invariant-loop-here l = (l.here.pattern.now ≡ l.fn.from.pattern.now) × Far l.fn.from.pattern.now l.fn.from.at l.here.at l.class

abbrev pub decreases-loop-here : goal.decreases-loop-here
decreases-loop-here l = length l.here.pattern.now - l.here.at
