use Rattle.std.proofs.Common.{◌∙◌, ap, subst, sym, take, Some, set}
use Rattle.bench_calls.specs.Rolls.{Corrects}
use Rattle.bench_calls.proofs.Rolls.{verdict_of}
use Rattle.roll.proofs.Lending.{does_at}
use Rattle.roll.specs.Calls.{judged}
use Rattle.roll.specs.Lending.{with}
use Rattle.roll.specs.Refusals.{verdict}
use Rattle.roll.specs.Steps.{heard}
use Rattle.bench_calls.proofs.correction.correct.Goals as goal

pub returns-clause-corrects : goal.returns-clause-corrects
returns-clause-corrects g c p stands =
    let m = c.args.lent.now.machine.now in
    let is = with c.file.new.roll c.file.new.lent in
    let strip = take 8000 c.args.strip.now in
    let put = c.in_ok-file.ensures.puts p stands in
    let machine = c.shared.ensures.machine ∙ ap (λ x. x.now) c.in_ok-file.ensures.lent.machine in
    let does = does_at g.M.Folding.leg g.M.Judging.means c.file.new.roll verdict (heard judged c.verdict.result) machine c.shared.ensures.legs c.shared.ensures.tallies c.verdict.ensures.does in
    let says = verdict_of (g.M.Folding.leg m) (g.M.Judging.means m) is (set p c.args.slot (Some strip)) put.1 c.verdict.result does in
    subst (λ r. Corrects (g.M.Folding.leg m) (g.M.Judging.means m) p c.args.slot strip r is) (sym says.1) (put.0, put.1, says.2)
