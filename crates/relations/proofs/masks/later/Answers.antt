use Rattle.relations.proofs.Shifts.{later_members, none_later}
use Rattle.relations.proofs.masks.later.Goals as goal

pub returns-then-by-lt64 : goal.returns-then-by-lt64
returns-then-by-lt64 c = record { members = record { at = later_members c.args.set c.args.by } }

pub returns-else-by-lt64 : goal.returns-else-by-lt64
returns-else-by-lt64 c = record { members = record { at = λ p. none_later c.args.set c.args.by p c.if-by-lt64.false } }
