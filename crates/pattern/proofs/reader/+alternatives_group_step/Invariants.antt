use Rattle.std.proofs.Common.{◌≡◌, ◌+◌, ◌-◌, ◌*◌, ◌≤◌, length}
use Rattle.notation.specs.Automaton.{ready, opened}
use Rattle.pattern.specs.Drafts.{Keeps}
use Rattle.pattern.specs.Walks.{LeadsOn}
use Rattle.pattern.proofs.reader.+alternatives_group_step.Given as goal

abbrev pub decreases-alternatives : goal.decreases-alternatives
decreases-alternatives g l = 3 * l.depth + 2

abbrev pub decreases-step : goal.decreases-step
decreases-step g l = 3 * l.depth + 1

abbrev pub decreases-group : goal.decreases-group
decreases-group g l = 3 * l.depth

abbrev pub invariant-alternatives-loop-next : goal.invariant-alternatives-loop-next
invariant-alternatives-loop-next g l =
    (l.here.pattern.now ≡ l.fn.from.pattern.now) × (l.fn.from.at ≤ l.here.at) × LeadsOn l.fn.from.pattern.now l.fn.from.at l.depth l.here.at ready opened (Keeps g.T.Assembly.stands l.draft)

abbrev pub decreases-alternatives-loop-next : goal.decreases-alternatives-loop-next
decreases-alternatives-loop-next g l = length l.here.pattern.now - l.here.at
