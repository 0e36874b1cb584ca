use Rattle.std.proofs.Common.{◌||◌, eqb, sym, ap, ◌∙◌}
use Rattle.trials.proofs.Zeros.{zero_more}
use Rattle.trials.proofs.zeroless.ZerolessFolding.step.Goals as goal

pub returns : goal.returns
returns c = record { steps = λ w _ is. ap (λ b. b || eqb c.args.c 0) is ∙ sym (zero_more w c.args.c) }
