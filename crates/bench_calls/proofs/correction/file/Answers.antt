use Rattle.std.proofs.Common.{◌∙◌, ap, subst, sym, take, Some, set}
use Rattle.std.proofs.lemmas.List.{take_min}
use Rattle.std.proofs.lemmas.Result.{err_from_is_err_and}
use Rattle.bench_calls.specs.Rolls.{Puts}
use Rattle.roll.proofs.Filling.{filed_in, no_slot}
use Rattle.roll.specs.Lending.{with}
use Rattle.roll.specs.Stands.{Stands}
use Rattle.bench_calls.proofs.correction.file.Goals as goal

pub returns-in_err-file-clause-puts : goal.returns-in_err-file-clause-puts
returns-in_err-file-clause-puts g c p stands =
    let m = c.args.lent.now.machine.now in
    let is = with c.file.new.self c.file.new.lent in
    let fault = err_from_is_err_and c.from_residual-in_err-file.result c.from_residual-in_err-file.ensures.1 in
    let stop = no_slot (g.M.Folding.leg m) (g.M.Judging.means m) (with c.args.roll.now c.args.lent.now) is p stands c.args.slot c.in_err-file.field-0.0 c.in_err-file.ensures.files in
    subst (λ r. Puts (g.M.Folding.leg m) p c.args.slot (take 8000 c.args.bytes.now) r is) (sym fault.1) (stop.0, fault.2 ∙ stop.1)

pub returns-clause-puts : goal.returns-clause-puts
returns-clause-puts g c p stands =
    let m = c.args.lent.now.machine.now in
    let is = with c.file.new.self c.file.new.lent in
    let in' = filed_in (g.M.Folding.leg m) (g.M.Judging.means m) (with c.args.roll.now c.args.lent.now) is p stands c.args.slot _ _ c.in_ok-strip.ensures.cases c.in_ok-file.ensures.files in
    (in'.0, subst (λ w. Stands (g.M.Folding.leg m) is (set p c.args.slot (Some w))) (ap (λ n. take n c.args.bytes.now) c.min.ensures ∙ take_min 8000 c.args.bytes.now) in'.1)
