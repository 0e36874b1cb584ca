use Rattle.std.proofs.Common.{◌≡◌, ◌<◌, ◌≤◌, length, Ok, Err, MatchResult, min, ◌∙◌, subst, sym, arith}
use Rattle.std.proofs.lemmas.Bool.{eqb-true, eqb-false}
use Rattle.std.proofs.lemmas.Result.{err_from_is_err_and}
use Rattle.yorvuste.specs.Filled.{FilledWith}
use Rattle.yorvuste.specs.Judgements.{room}
use Rattle.fault.specs.declared.Refusal.TheVariants.{NoSuchSlot}
use Rattle.roll.specs.Lending.{with}
use Rattle.roll.specs.Refusals.{fault as roll_fault}
use Rattle.roll.specs.Steps.{FedAtOnce, Files}
use Rattle.roll.proofs.Lending.{not_touched, still_lent}
use Rattle.yorvuste.proofs.Filling.{along_none, along_all, along_more, along_stop}
use Rattle.yorvuste.proofs.judging.file_all.Goals as goal

pub loop-rest-init : goal.loop-rest-init
loop-rest-init g c = (along_none _ _ _ c.requires.empty, not_touched)

pub loop-rest-preserved : goal.loop-rest-preserved
loop-rest-preserved g c =
    let still = c.loop-rest.invariant.1 in
    let was = with c.loop-rest.roll c.loop-rest.lent in
    let is = with c.file.new.self c.file.new.lent in
    let fed = subst (λ m. FedAtOnce (g.M.Folding.leg m.now) c.split_at.result.0.now c.in_ok-strip.strip) still.machine c.in_ok-strip.ensures.cases in
    let filed = subst (λ m. Files (g.M.Folding.leg m.now) (g.M.Judging.means m.now) was c.loop-rest.slot c.in_ok-strip.strip (Ok c.in_ok-file.field-0) is) still.machine c.in_ok-file.ensures.files in
    let long : length c.split_at.result.0.now ≡ min (length c.loop-rest.rest.now) 1000000 = let front = c.split_at.ensures.front_len in let least = c.min.ensures in omega arith in
    (along_more _ _ was is _ _ _ c.loop-rest.invariant.0 _ _ _ c.split_at.ensures.by_index.0 long fed filed, still_lent still c.in_ok-file.ensures.lent)

pub returns-in_err-file-clause-filed : goal.returns-in_err-file-clause-filed
returns-in_err-file-clause-filed g c =
    let still = c.loop-rest.invariant.1 in
    let was = with c.loop-rest.roll c.loop-rest.lent in
    let is = with c.file.new.self c.file.new.lent in
    let filed = subst (λ m. Files (g.M.Folding.leg m.now) (g.M.Judging.means m.now) was c.loop-rest.slot c.in_ok-strip.strip (Err c.in_err-file.field-0.0) is) still.machine c.in_err-file.ensures.files in
    let fault = err_from_is_err_and c.from_residual-in_err-file.result c.from_residual-in_err-file.ensures.1 in
    let some : 0 < length c.loop-rest.rest.now = let no = eqb-false (length c.loop-rest.rest.now) 0 (sym c.loop-rest-test.ensures) in omega arith in
    let stop = along_stop _ _ was is _ _ _ c.loop-rest.invariant.0 c.in_err-file.field-0.0 some filed in
    subst (λ r. MatchResult r (λ x. (length c.args.text.now ≤ room) × FilledWith g.M.Folding.leg c.args.lent.now c.args.text.now c.file.new.self c.file.new.lent) (λ f. (room < length c.args.text.now) × (f ≡ roll_fault NoSuchSlot 128))) (sym fault.1) (stop.0, fault.2 ∙ stop.1)

pub returns-in_err-file-clause-lent : goal.returns-in_err-file-clause-lent
returns-in_err-file-clause-lent g c = still_lent c.loop-rest.invariant.1 c.in_err-file.ensures.lent

pub returns-clause-filed : goal.returns-clause-filed
returns-clause-filed g c = along_all _ _ _ _ _ (eqb-true (length c.loop-rest.rest.now) 0 (sym c.loop-rest-test.ensures)) c.loop-rest.invariant.0

pub returns-clause-lent : goal.returns-clause-lent
returns-clause-lent g c = c.loop-rest.invariant.1
