use Rattle.std.proofs.Common.{refl, ◌∙◌, arith}
use Rattle.std.proofs.lemmas.Bool.{false≢true}
use Rattle.pattern.proofs.Exits.{handed_on}
use Rattle.pattern.proofs.CountWays.{first_refused, after_first, one_count, second_refused, after_second, two_counts}
use Rattle.pattern.proofs.repeat.counts.Goals as goal

pub returns-in_err-least-clause-cases : goal.returns-in_err-least-clause-cases
returns-in_err-least-clause-cases c = handed_on _ _ _ _ c.from_residual.ensures.1 (first_refused _ _ _ c.in_err-least.ensures.cases)

pub returns-in_err-byte-clause-cases : goal.returns-in_err-byte-clause-cases
returns-in_err-byte-clause-cases c =
    let (past, is) = rw c.in_ok-least.ensures.same at c.in_err-byte.ensures.cases in
    handed_on _ _ _ _ c.from_residual-in_err-byte.ensures.1 (after_first _ _ _ _ _ c.in_ok-least.ensures.cases (λ lt. absurd (omega arith)) (λ lt. absurd (omega arith)) is)

pub returns-in_err-most-in-44-clause-cases : goal.returns-in_err-most-in-44-clause-cases
returns-in_err-most-in-44-clause-cases c =
    let (lt, is) = rw c.in_ok-least.ensures.same at c.in_ok-byte.ensures.cases in
    handed_on _ _ _ _ c.from_residual-in_err-most-in-44.ensures.1 (second_refused _ _ _ _ _ c.in_ok-least.ensures.cases lt (is ∙ c.in-44.is) (rw (c.next-in-44.ensures.pattern, c.in_ok-least.ensures.same, c.next-in-44.ensures.at) at c.in_err-most-in-44.ensures.cases))

pub returns-then-not-closes-clause-cases : goal.returns-then-not-closes-clause-cases
returns-then-not-closes-clause-cases c =
    let (lt, is) = rw c.in_ok-least.ensures.same at c.in_ok-byte.ensures.cases in
    let last = rw (c.next-in-44.ensures.pattern, c.in_ok-least.ensures.same, c.next-in-44.ensures.at) at c.in_ok-most-in-44.ensures.cases in
    let closes = rw (c.in_ok-most-in-44.ensures.same, c.next-in-44.ensures.pattern, c.in_ok-least.ensures.same) at c.if-not-closes.ensures.cases.1 in
    after_second _ _ _ _ _ _ _ c.in_ok-least.ensures.cases lt (is ∙ c.in-44.is) last (λ lt' ends le. false≢true (closes ((lt', ends), le))) c.refuse.ensures.value

pub returns-in-125-clause-cases : goal.returns-in-125-clause-cases
returns-in-125-clause-cases c =
    let (lt, is) = rw c.in_ok-least.ensures.same at c.in_ok-byte.ensures.cases in
    rw c.next.ensures.at (one_count _ _ _ _ c.in_ok-least.ensures.cases lt (is ∙ c.in-125.is))

pub returns-else-not-closes-clause-cases : goal.returns-else-not-closes-clause-cases
returns-else-not-closes-clause-cases c =
    let (lt, is) = rw c.in_ok-least.ensures.same at c.in_ok-byte.ensures.cases in
    let last = rw (c.next-in-44.ensures.pattern, c.in_ok-least.ensures.same, c.next-in-44.ensures.at) at c.in_ok-most-in-44.ensures.cases in
    let ((lt', ends), le) = rw (c.in_ok-most-in-44.ensures.same, c.next-in-44.ensures.pattern, c.in_ok-least.ensures.same) at (c.if-not-closes.ensures.cases.0 refl) in
    rw c.next-in-44-2.ensures.at (two_counts _ _ _ _ _ _ c.in_ok-least.ensures.cases lt (is ∙ c.in-44.is) last lt' ends le)

pub returns-in_default-clause-cases : goal.returns-in_default-clause-cases
returns-in_default-clause-cases c =
    let (lt, is) = rw c.in_ok-least.ensures.same at c.in_ok-byte.ensures.cases in
    after_first _ _ _ _ _ c.in_ok-least.ensures.cases (λ lt' is'. omega arith) (λ lt' is'. omega arith) c.refuse-in_default.ensures.value
