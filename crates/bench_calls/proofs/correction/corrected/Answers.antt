use Rattle.std.proofs.Common.{◌∙◌, map, take, subst, sym, Some, Ok, Err}
use Rattle.std.proofs.lemmas.Result.{err_from_is_err_and}
use Rattle.bench_calls.specs.Answers.{Corrected, in_strips}
use Rattle.bench_calls.specs.Rolls.{Corrects}
use Rattle.bench_calls.proofs.Rolls.{mended, first, again, no_such, bytes_mended}
use Rattle.roll.specs.Lending.{with}
use Rattle.roll.specs.Stands.{Stands}
use Rattle.roll.proofs.Lending.{still_lent}
use Rattle.bench_calls.proofs.correction.corrected.Goals as goal

pub returns-in_err-verdict-clause-corrected : goal.returns-in_err-verdict-clause-corrected
returns-in_err-verdict-clause-corrected g c =
    let m = c.args.lent.now.machine.now in
    let asked = c.args.asked.now in
    let leg = g.M.Folding.leg in
    let means = g.M.Judging.means in
    let strips = map Some (in_strips 128 asked.text.now) in
    let is = with c.correct.new.roll c.correct.new.lent in
    let fault = err_from_is_err_and c.from_residual-in_err-verdict.result c.from_residual-in_err-verdict.ensures.1 in
    let filled = subst (λ x. Stands (leg x.now) (with c.fill.new.roll c.fill.new.lent) strips) (sym c.fill.ensures.lent.machine) c.in_ok-fill.ensures.filled in
    let goes = subst (λ x. Corrects (leg x.now) (means x.now) strips asked.slot (take 8000 asked.strip.now) (Err c.in_err-verdict.field-0.0) is) (c.fill.ensures.lent.machine ∙ c.open.ensures.lent.machine) (c.in_err-verdict.ensures.corrects strips filled) in
    let stop = no_such (leg m) (means m) asked.text.now asked.slot asked.strip.now c.in_err-verdict.field-0.0 is goes in
    subst (λ r. Corrected (means m) asked.text.now asked.slot asked.strip.now r) (sym fault.1) (stop.0, fault.2 ∙ stop.1)

pub loop-init : goal.loop-init
loop-init g c =
    let m = c.args.lent.now.machine.now in
    let asked = c.args.asked.now in
    let leg = g.M.Folding.leg in
    let means = g.M.Judging.means in
    let strips = map Some (in_strips 128 asked.text.now) in
    let is = with c.correct.new.roll c.correct.new.lent in
    let filled = subst (λ x. Stands (leg x.now) (with c.fill.new.roll c.fill.new.lent) strips) (sym c.fill.ensures.lent.machine) c.in_ok-fill.ensures.filled in
    let goes = subst (λ x. Corrects (leg x.now) (means x.now) strips asked.slot (take 8000 asked.strip.now) (Ok c.in_ok-verdict.verdict) is) (c.fill.ensures.lent.machine ∙ c.open.ensures.lent.machine) (c.in_ok-verdict.ensures.corrects strips filled) in
    let put = first (leg m) (means m) asked.text.now asked.slot asked.strip.now c.in_ok-verdict.verdict is goes in
    (put.0, put.1, put.2, still_lent (still_lent c.open.ensures.lent c.fill.ensures.lent) c.correct.ensures.lent)

pub loop-preserved : goal.loop-preserved
loop-preserved g c =
    let m = c.args.lent.now.machine.now in
    let asked = c.args.asked.now in
    let leg = g.M.Folding.leg in
    let means = g.M.Judging.means in
    let strips = map Some (mended asked.text.now asked.slot asked.strip.now) in
    let is = with c.correct-in-loop.new.roll c.correct-in-loop.new.lent in
    let still = c.loop.invariant.3 in
    let stands = subst (λ x. Stands (leg x.now) (with c.loop.roll c.loop.lent) strips) (sym still.machine) c.loop.invariant.1 in
    let goes = subst (λ x. Corrects (leg x.now) (means x.now) strips asked.slot (take 8000 asked.strip.now) (Ok c.in_ok-verdict-2.verdict) is) still.machine (c.in_ok-verdict-2.ensures.corrects strips stands) in
    let put = again (leg m) (means m) asked.text.now asked.slot asked.strip.now c.in_ok-verdict-2.verdict is goes in
    (c.loop.invariant.0, put.0, put.1, still_lent still c.correct-in-loop.ensures.lent)

pub returns-clause-bytes : goal.returns-clause-bytes
returns-clause-bytes g c = bytes_mended _ _ _ _ _ c.loop.invariant.1
