use Rattle.std.proofs.Common.{◌+◌, arith}
use Rattle.pattern.proofs.ByteSets.{added_more, range_added}
use Rattle.pattern.proofs.bytes.ByteSet.add_range.Goals as goal

pub returns : goal.returns
returns c = record { value = range_added c.args.self.now c.loop-each.self _ _ c.loop-each.each (omega arith) c.loop-each.invariant }

pub returns-2 : goal.returns-2
returns-2 c = record { value = range_added c.args.self.now _ _ _ (c.from.result + 1) (omega arith) (added_more _ _ _ _ c.from.result (omega arith) (omega arith) (omega arith) (rw c.from.ensures c.loop-each.invariant)) }
