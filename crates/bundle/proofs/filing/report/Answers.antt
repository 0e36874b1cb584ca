use Rattle.std.proofs.Common.{◌≡◌, Result, ap, ◌∙◌, subst}
use Rattle.std.proofs.lemmas.Result.{err_from_is_err_and}
use Rattle.fault.specs.declared.Fault.{Fault}
use Rattle.roll.specs.Calls.{Answer, judged, tallied, named, refused}
use Rattle.roll.specs.Lending.{with, before}
use Rattle.roll.specs.Refusals.{Call, verdict, totals, culprit}
use Rattle.roll.specs.Stands.{State}
use Rattle.roll.specs.Steps.{Does}
use Rattle.roll.proofs.Lending.{does_at, still_lent}
use Rattle.bundle.specs.Handed.{left}
use Rattle.bundle.specs.History.{FiledAll}
use Rattle.bundle.proofs.Reporting.{ran_reported}
use Rattle.bundle.proofs.Running.{not_opened, not_filed, not_refused, all_answered}
use Rattle.bundle.proofs.filing.report.Given as given
use Rattle.bundle.proofs.filing.report.Goals as goal
use Rattle.bundle.proofs.filing.report.Goals.{After-file_all, After-shared-lent}

-- what is there once the filing has ended
abbrev left_in : (g : given.Over) → After-file_all g → State g.row.M-Leg.Denot
left_in g c = with c.file_all.new.roll c.file_all.new.lent

-- the filing, under the machine that was lent
filing : (g : given.Over) (c : After-file_all g) (r : Result (Unit {0}) Fault) → c.file_all.result ≡ r → (let m = c.args.lent.now.machine.now in FiledAll (g.M.Folding.leg m) (g.M.Judging.means m) (with c.open.new.self c.open.new.lent) (left c.args.strips) r (left_in g c))
filing g c r was =
    subst (λ x. FiledAll (g.M.Folding.leg c.args.lent.now.machine.now) (g.M.Judging.means c.args.lent.now.machine.now) (with c.open.new.self c.open.new.lent) (left c.args.strips) x (left_in g c)) was
    (subst (λ m. FiledAll (g.M.Folding.leg m.now) (g.M.Judging.means m.now) (with c.open.new.self c.open.new.lent) (left c.args.strips) c.file_all.result (left_in g c)) c.open.ensures.lent.machine c.file_all.ensures.filed)

-- a question, under the machine that was lent
asked : (g : given.Over) (c : After-shared-lent g) (q : Call) (a : Answer)
    → (let lent = c.shared-lent.result in Does (g.M.Folding.leg lent.machine.now) (g.M.Judging.means lent.machine.now) (before c.file_all.new.roll lent) q a (before c.file_all.new.roll lent))
    → (let m = c.args.lent.now.machine.now in let is = with c.file_all.new.roll c.file_all.new.lent in Does (g.M.Folding.leg m) (g.M.Judging.means m) is q a is)
asked g c q a does =
    let machine = c.shared-lent.ensures.machine ∙ ap (λ m. m.now) (c.file_all.ensures.lent.machine ∙ c.open.ensures.lent.machine) in
    does_at g.M.Folding.leg g.M.Judging.means c.file_all.new.roll q a machine c.shared-lent.ensures.legs c.shared-lent.ensures.tallies does

pub returns-in_err-open : goal.returns-in_err-open
returns-in_err-open g c =
    let m = c.args.lent.now.machine.now in
    let lent = c.args.lent.now in
    let fault = err_from_is_err_and c.from_residual.result c.from_residual.ensures.1 in
    let ran = not_opened _ _ c.new-roll.result lent.legs.now lent.tallies.now (left c.args.strips) (c.new-roll.ensures.begins m) _ _ _ _ fault.1 fault.2 c.in_err-open.ensures.opens in
    record { reported = ran_reported _ _ (c.new-roll.ensures.law m m) _ _ _ _ _ _ ran; ran = ran; lent = c.open.ensures.lent }

pub returns-in_err-file_all : goal.returns-in_err-file_all
returns-in_err-file_all g c =
    let m = c.args.lent.now.machine.now in
    let lent = c.args.lent.now in
    let kept = c.open.ensures.lent in
    let fault = err_from_is_err_and c.from_residual-in_err-file_all.result c.from_residual-in_err-file_all.ensures.1 in
    let at = goal.at.returns-in_err-file_all g c in
    let ran = not_filed _ _ c.new-roll.result lent.legs.now lent.tallies.now (left c.args.strips) (c.new-roll.ensures.begins m) _ c.in_ok-open.ensures.opens kept.leg_count kept.tally_count (left_in g at.After-file_all) _ _ _ fault.1 fault.2 (filing g at.After-file_all _ c.in_err-file_all.was) in
    record { reported = ran_reported _ _ (c.new-roll.ensures.law m m) _ _ _ _ _ _ ran; ran = ran; lent = still_lent kept c.file_all.ensures.lent }

pub returns-in_err-verdict : goal.returns-in_err-verdict
returns-in_err-verdict g c =
    let m = c.args.lent.now.machine.now in
    let lent = c.args.lent.now in
    let kept = c.open.ensures.lent in
    let at = goal.at.returns-in_err-verdict g c in
    absurd (not_refused _ _ c.new-roll.result lent.legs.now lent.tallies.now (left c.args.strips) (c.new-roll.ensures.begins m) _ c.in_ok-open.ensures.opens kept.leg_count kept.tally_count (left_in g at.After-file_all) (filing g at.After-file_all _ c.in_ok-file_all.was) (c.new-roll.ensures.law m m) _ (asked g at.After-shared-lent verdict (refused c.in_err-verdict.field-0.0) c.in_err-verdict.ensures.does))

pub returns : goal.returns
returns g c =
    let m = c.args.lent.now.machine.now in
    let lent = c.args.lent.now in
    let kept = c.open.ensures.lent in
    let more = c.file_all.ensures.lent in
    let at = goal.at.returns g c in
    let ask = asked g at.After-shared-lent in
    let ran = all_answered _ _ c.new-roll.result lent.legs.now lent.tallies.now (left c.args.strips) (c.new-roll.ensures.begins m) _ c.in_ok-open.ensures.opens kept.leg_count kept.tally_count (left_in g at.After-file_all) (filing g at.After-file_all _ c.in_ok-file_all.was) more.leg_count more.tally_count _ _ _ (ask verdict (judged _) c.in_ok-verdict.ensures.does) (ask totals (tallied _) c.in_ok-totals.ensures.does) (ask culprit (named _) c.in_ok-culprit.ensures.does) in
    record { reported = ran_reported _ _ (c.new-roll.ensures.law m m) _ _ _ _ _ _ ran; ran = ran; lent = still_lent kept more }
