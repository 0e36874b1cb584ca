use Rattle.std.proofs.Common.{arith}
use Rattle.std.proofs.lemmas.List.{length_push}
use Rattle.trials.proofs.thirds.ThirdsFolding.step.Goals as goal

pub returns : goal.returns
returns c = record { steps = λ w _ is. omega (arith, length_push w c.args._c) }
