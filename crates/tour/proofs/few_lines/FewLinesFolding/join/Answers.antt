use Rattle.std.proofs.Common.{nat_eq, cond, arith}
use Rattle.std.proofs.lemmas.List.Sums.{sum_by-append}
use Rattle.tour.proofs.few_lines.FewLinesFolding.join.Goals as goal

pub returns : goal.returns
returns c = record { joins = λ v w _ _ first second. omega (arith, sum_by-append (λ b. cond (nat_eq b 10) 1 0) v w) }
