use Rattle.std.proofs.Common.{◌≡◌, suc, ◌-◌, length, refl, ap, subst, arith}
use Rattle.pattern.proofs.Exits.{handed_on}
use Rattle.std.proofs.lemmas.Option.{MatchOption-at_none}
use Rattle.notation.specs.Automaton.{ready, opened}
use Rattle.pattern.specs.Signs.{Formed, Handed}
use Rattle.pattern.proofs.Drafting.{keeps_waits}
use Rattle.pattern.proofs.Groups.{too_deep, inner_stops, unfinished, group_read}
use Rattle.pattern.proofs.Walking.{sign_stops, group_stops, walk_stops, walk_all}
use Rattle.pattern.proofs.SignSteps.{begun, inner, grown, group_steps}
use Rattle.pattern.proofs.reader.+alternatives_group_step.Goals as goal

pub alternatives-loop-next-init : goal.alternatives-loop-next-init
alternatives-loop-next-init g t c = (refl, omega arith, record { mode = ready; frame = opened; keeps = c.new-draft.ensures.value; runs = λ ctx. refl })

pub alternatives-returns-in_err-next-clause-cases : goal.alternatives-returns-in_err-next-clause-cases
alternatives-returns-in_err-next-clause-cases g t c =
    let (same, forward, walk) = c.loop-next.invariant in
    handed_on _ _ _ _ c.from_residual.ensures.1 (walk_stops _ _ _ _ _ _ walk (rw same at c.in_err-next.ensures.cases))

pub alternatives-returns-clause-cases : goal.alternatives-returns-clause-cases
alternatives-returns-clause-cases g t c =
    let (same, forward, walk) = c.loop-next.invariant in
    let halts = rw same at (MatchOption-at_none _ _ c.in_default.is c.in_ok-next.ensures.cases) in
    walk_all _ _ _ _ _ _ (keeps_waits g.T.Assembly.stands c.loop-next.draft refl) _ forward (omega (arith, c.loop-next.here.within, ap length same)) walk halts c.closed.ensures.value

pub group-returns-then-depth-eq0-clause-cases : goal.group-returns-then-depth-eq0-clause-cases
group-returns-then-depth-eq0-clause-cases g t c = too_deep _ _ c.requires.paren.0 c.requires.paren.1 _ _ c.if-depth-eq0.true c.refuse.ensures.value

pub group-returns-in_err-end-clause-cases : goal.group-returns-in_err-end-clause-cases
group-returns-in_err-end-clause-cases g t c =
    let deep : c.args.depth ≡ suc (c.args.depth - 1) = omega arith in
    handed_on _ _ _ _ c.from_residual.ensures.1 (inner_stops _ _ c.requires.paren.0 c.requires.paren.1 _ _ _ deep (rw (c.next.ensures.pattern, c.next.ensures.at) at c.in_err-end.ensures.cases))

pub group-returns-in_err-byte-clause-cases : goal.group-returns-in_err-byte-clause-cases
group-returns-in_err-byte-clause-cases g t c =
    let deep : c.args.depth ≡ suc (c.args.depth - 1) = omega arith in
    let read = rw (c.next.ensures.pattern, c.next.ensures.at) at c.in_ok-end.ensures.cases in
    let (past, is) = rw (c.in_ok-end.ensures.same, c.next.ensures.pattern) at c.in_err-byte.ensures.cases in
    handed_on _ _ _ _ c.from_residual-in_err-byte.ensures.1 (unfinished _ _ c.requires.paren.0 c.requires.paren.1 _ _ _ _ _ deep read past is)

pub group-returns-clause-cases : goal.group-returns-clause-cases
group-returns-clause-cases g t c =
    let deep : c.args.depth ≡ suc (c.args.depth - 1) = omega arith in
    let read = rw (c.next.ensures.pattern, c.next.ensures.at) at c.in_ok-end.ensures.cases in
    let (inside, _) = rw (c.in_ok-end.ensures.same, c.next.ensures.pattern) at c.in_ok-byte.ensures.cases in
    rw c.next-2.ensures.at (group_read _ _ c.requires.paren.0 c.requires.paren.1 _ _ _ _ deep read inside)

pub step-returns-in_err-sign-clause-cases : goal.step-returns-in_err-sign-clause-cases
step-returns-in_err-sign-clause-cases g t c =
    handed_on _ _ _ _ c.from_residual.ensures.1 (sign_stops _ _ _ _ _ (keeps_waits g.T.Assembly.stands c.args.draft.now c.is_some.ensures) _ c.in_err-sign.ensures.cases.stops)

pub step-returns-in_err-end-in-Open-clause-cases : goal.step-returns-in_err-end-in-Open-clause-cases
step-returns-in_err-end-in-Open-clause-cases g t c =
    let (lt, is) = begun _ _ _ _ _ 40 c.in_ok-sign.ensures.cases c.in-Open.is refl (λ f. f) in
    handed_on _ _ _ _ c.from_residual-in_err-end-in-Open.ensures.1 (group_stops _ _ _ _ _ (keeps_waits g.T.Assembly.stands c.args.draft.now c.is_some.ensures) _ _ is c.in_err-end-in-Open.ensures.cases)

pub step-returns-in_ok-end-in-Open-clause-cases : goal.step-returns-in_ok-end-in-Open-clause-cases
step-returns-in_ok-end-in-Open-clause-cases g t c =
    let (lt, is) = begun _ _ _ _ _ 40 c.in_ok-sign.ensures.cases c.in-Open.is refl (λ f. f) in
    group_steps _ _ _ _ _ _ (keeps_waits g.T.Assembly.stands c.args.draft.now c.is_some.ensures) _ _ _ is c.in_ok-end-in-Open.ensures.cases c.atom.ensures.value

pub step-with-requires : goal.step-with-requires
step-with-requires g t c = record { formed = subst (λ r. Formed r c.in_ok-sign.sign) c.is_some.ensures c.in_ok-sign.ensures.cases.formed; inner = inner _ c.in_default.not-Open c.in_default.not-Close c.in_default.not-End }

pub step-returns-in_default-clause-cases : goal.step-returns-in_default-clause-cases
step-returns-in_default-clause-cases g t c =
    let handed = subst (λ r. Handed c.args.from.pattern.now c.args.from.at r c.in_ok-sign.sign) c.is_some.ensures c.in_ok-sign.ensures.cases in
    rw c.skip.ensures.at (grown _ _ _ _ _ _ (keeps_waits g.T.Assembly.stands c.args.draft.now refl) _ _ handed c.len.ensures.value c.with.ensures.value)
