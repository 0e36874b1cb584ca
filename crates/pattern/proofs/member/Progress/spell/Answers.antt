use Rattle.pattern.proofs.NameBytes.{cannot_end}
use Rattle.pattern.proofs.member.Progress.spell.Goals as goal

pub returns-in_err-spelled : goal.returns-in_err-spelled
returns-in_err-spelled c = record { cases = λ s. rw c.from_residual.ensures (cannot_end _ s c.in_err-spelled.ensures.cases) }
