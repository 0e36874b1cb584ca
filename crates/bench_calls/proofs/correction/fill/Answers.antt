use Rattle.std.proofs.Common.{◌≡◌, ◌+◌, ◌-◌, subst, sym, ap, ◌∙◌, drop, take, set, length-drop, Some, length, arith}
use Rattle.std.proofs.lemmas.List.{drop_min, take_all}
use Rattle.bench_calls.proofs.Rolls.{Along, along_none, along_all, along_more, along_size}
use Rattle.roll.proofs.Filling.{held}
use Rattle.roll.proofs.Lending.{not_touched, still_lent}
use Rattle.roll.specs.Lending.{with}
use Rattle.roll.specs.Stands.{Stands}
use Rattle.bench_calls.proofs.correction.fill.Goals as goal

pub loop-slot-init : goal.loop-slot-init
loop-slot-init g c = (along_none _ _ _ c.requires.empty, not_touched)

pub loop-slot-preserved : goal.loop-slot-preserved
loop-slot-preserved g c =
    let along = c.loop-slot.invariant.0 in
    let still = c.loop-slot.invariant.1 in
    let rest = c.loop-slot.rest.now in
    let leg = g.M.Folding.leg in
    let was = with c.loop-slot.roll c.loop-slot.lent in
    let is = with c.file.new.roll c.file.new.lent in
    let held' = held along.strips along.left in
    let put = c.in_ok-file.ensures.puts held' (subst (λ m. Stands (leg m.now) was held') (sym still.machine) along.front.stands) in
    let stands = subst (λ m. Stands (leg m.now) is (set held' c.loop-slot.slot (Some (take 8000 rest)))) still.machine put.1 in
    let left = take_all (length rest - c.min.result) (drop c.min.result rest) (let long = length-drop c.min.result rest in omega arith) ∙ ap (λ n. drop n rest) c.min.ensures ∙ drop_min 8000 rest in (
      subst (λ l. Along (leg c.args.lent.now.machine.now) is c.args.text.now l (c.loop-slot.slot + 1)) (sym left) (along_more _ was c.args.text.now rest c.loop-slot.slot along is c.loop-slot-test.true stands),
      still_lent still c.file.ensures.lent,
    )

pub returns-in_err-file-clause-filled : goal.returns-in_err-file-clause-filled
returns-in_err-file-clause-filled g c =
    let along = c.loop-slot.invariant.0 in
    let still = c.loop-slot.invariant.1 in
    let was = with c.loop-slot.roll c.loop-slot.lent in
    let held' = held along.strips along.left in
    let put = c.in_err-file.ensures.puts held' (subst (λ m. Stands (g.M.Folding.leg m.now) was held') (sym still.machine) along.front.stands) in
    let size = along_size _ was c.args.text.now c.loop-slot.rest.now c.loop-slot.slot along in
    let in' = c.loop-slot-test.true in
    let out = put.0 in
    absurd (omega arith)

pub returns-in_err-file-clause-lent : goal.returns-in_err-file-clause-lent
returns-in_err-file-clause-lent g c = still_lent c.loop-slot.invariant.1 c.file.ensures.lent

pub returns-clause-filled : goal.returns-clause-filled
returns-clause-filled g c =
    let leg = g.M.Folding.leg c.args.lent.now.machine.now in
    let is = with c.loop-slot.roll c.loop-slot.lent in
    let last = c.loop-slot-test.false in
    let most = c.loop-slot.auto.slot-end in
    let end : c.loop-slot.slot ≡ 128 = omega arith in
    along_all leg is c.args.text.now c.loop-slot.rest.now (subst (Along leg is c.args.text.now c.loop-slot.rest.now) end c.loop-slot.invariant.0)
