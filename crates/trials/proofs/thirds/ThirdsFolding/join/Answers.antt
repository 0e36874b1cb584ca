use Rattle.std.proofs.Common.{arith, length-append}
use Rattle.trials.proofs.thirds.ThirdsFolding.join.Goals as goal

pub returns : goal.returns
returns c = record { joins = λ v w _ _ first second. omega (arith, length-append v w) }
