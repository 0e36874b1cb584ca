use Rattle.std.proofs.Common.{subst}
use Rattle.notation.specs.Reading.{Readable}
use Rattle.pattern.proofs.record.Pattern.bytes.Goals as goal

pub returns-clause-granted : goal.returns-clause-granted
returns-clause-granted c = subst Readable c.self.view_is c.self.invariant
