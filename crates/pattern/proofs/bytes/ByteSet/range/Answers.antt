use Rattle.std.proofs.Common.{[]}
use Rattle.pattern.proofs.bytes.ByteSet.range.Goals as goal

pub returns : goal.returns
returns c = record { value = c.add_range.ensures.value [] c.none-set.ensures.value }
