use Rattle.std.proofs.Common.{◌||◌, sym, ◌∙◌}
use Rattle.trials.proofs.Zeros.{zero_joined}
use Rattle.trials.proofs.zeroless.ZerolessFolding.join.Goals as goal

pub returns : goal.returns
returns c = record { joins = λ v w _ _ first second. (λ i. first i || second i) ∙ sym (zero_joined v w) }
