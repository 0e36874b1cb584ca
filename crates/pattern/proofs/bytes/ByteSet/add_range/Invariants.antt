use Rattle.pattern.proofs.ByteSets.{Added}
use Rattle.pattern.proofs.bytes.ByteSet.add_range.Given as goal

abbrev pub invariant-loop-each : goal.invariant-loop-each
invariant-loop-each l = Added l.fn.self.has l.self.has l.low l.high l.each
