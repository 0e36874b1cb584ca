use Rattle.std.proofs.Common.{arith}
use Rattle.pattern.proofs.ByteSets.{named_added}
use Rattle.pattern.proofs.bytes.ByteSet.add_named.Goals as goal

pub returns : goal.returns
returns c = record { value = named_added c.args.self.now (record { has = c.loop-byte.has-items }) c.table-table.result.now c.args.name c.loop-byte.byte (omega arith) c.table-table.ensures.value c.loop-byte.invariant }
