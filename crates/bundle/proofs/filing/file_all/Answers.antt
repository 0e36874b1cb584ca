use Rattle.std.proofs.Common.{Ok, Err, ap, subst}
use Rattle.std.proofs.lemmas.Result.{err_from_is_err_and}
use Rattle.roll.specs.Lending.{with}
use Rattle.roll.proofs.Lending.{not_touched, still_lent}
use Rattle.bundle.specs.Handed.{piece, left}
use Rattle.bundle.specs.History.{FiledOne}
use Rattle.bundle.proofs.Filings.{along_none, along_all, along_more, along_stop}
use Rattle.bundle.proofs.filing.file_all.Goals as goal

pub loop-strip-init : goal.loop-strip-init
loop-strip-init g c = (λ h run. along_none _ _ _ _ _ h (ap left c.into_iter-strip-iterator.ensures.into_iter_gives) run, not_touched)

pub loop-strip-preserved : goal.loop-strip-preserved
loop-strip-preserved g c =
    let still = c.loop-strip.invariant.1 in
    let strip = piece c.in-Some.strip in
    let is = with c.loop-strip.roll c.loop-strip.lent in
    let now = with c.file_one.new.roll c.file_one.new.lent in
    let one = subst (λ m. FiledOne (g.M.Folding.leg m.now) (g.M.Judging.means m.now) is strip (Ok tt) now) still.machine c.in_ok-file_one.ensures.filed in (
      λ h run. along_more _ _ _ is now _ _ _ strip h still.leg_count still.tally_count c.in-Some.ensures.steps.0 (c.loop-strip.invariant.0 h run) one,
      still_lent still c.file_one.ensures.lent,
    )

pub returns-in_err-file_one-clause-filed : goal.returns-in_err-file_one-clause-filed
returns-in_err-file_one-clause-filed g c h run =
    let still = c.loop-strip.invariant.1 in
    let strip = piece c.in-Some.strip in
    let is = with c.loop-strip.roll c.loop-strip.lent in
    let now = with c.file_one.new.roll c.file_one.new.lent in
    let fault = err_from_is_err_and c.from_residual.result c.from_residual.ensures.1 in
    let one = subst (λ m. FiledOne (g.M.Folding.leg m.now) (g.M.Judging.means m.now) is strip (Err c.in_err-file_one.field-0.0) now) still.machine c.in_err-file_one.ensures.filed in
    along_stop _ _ _ is now _ _ _ strip h still.leg_count still.tally_count c.in-Some.ensures.steps.0 (c.loop-strip.invariant.0 h run) _ _ fault.0 fault.1 fault.2 one

pub returns-clause-filed : goal.returns-clause-filed
returns-clause-filed g c h run = along_all _ _ _ _ _ _ h c.in-None.ensures.steps.0.0 (c.loop-strip.invariant.0 h run)
