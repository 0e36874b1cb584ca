use Rattle.trials.proofs.Zeros.{zero_loses}
use Rattle.trials.proofs.zeroless.ZerolessJudging.lost.Goals as goal

pub returns : goal.returns
returns c = record { cases = λ w _ is. zero_loses w _ is }
