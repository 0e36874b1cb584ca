use Rattle.std.proofs.Common.{rules}
use Rattle.pattern.proofs.Outcomes.{empty_readable}
use Rattle.pattern.proofs.record.Pattern.new.Goals as goal

pub invariant_of-result : goal.invariant_of-result
invariant_of-result c = empty_readable _ (search rules)
