use Rattle.std.proofs.Common.{◌+◌, ◌*◌}
use Rattle.machine_trials.proofs.spans.Matcher.+alternatives_atom_branch.Given as goal

abbrev pub decreases-alternatives : goal.decreases-alternatives
decreases-alternatives l = 3 * l.depth + 2

abbrev pub decreases-branch : goal.decreases-branch
decreases-branch l = 3 * l.depth + 1

abbrev pub decreases-atom : goal.decreases-atom
decreases-atom l = 3 * l.depth
