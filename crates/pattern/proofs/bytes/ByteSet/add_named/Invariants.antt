use Rattle.pattern.proofs.ByteSets.{Tabled}
use Rattle.pattern.proofs.bytes.ByteSet.add_named.Given as goal

abbrev pub invariant-loop-byte : goal.invariant-loop-byte
invariant-loop-byte l = Tabled l.fn.self.has l.has-items l.table l.byte
