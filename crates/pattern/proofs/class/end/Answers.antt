use Rattle.std.proofs.Common.{length, refl, ap, ◌∙◌, arith}
use Rattle.pattern.proofs.Exits.{handed_on}
use Rattle.pattern.proofs.ClassLoop.{far_none, far_more, far_ended, far_refused, far_all}
use Rattle.pattern.proofs.class.end.Goals as goal

pub loop-here-init : goal.loop-here-init
loop-here-init c = (refl, far_none _ _ c.opened-class.result c.opened-class.ensures.value c.opened-class.ensures.start)

pub returns-in_err-byte-clause-cases : goal.returns-in_err-byte-clause-cases
returns-in_err-byte-clause-cases c =
    let (same, far) = c.loop-here.invariant in
    let (past, is) = rw same at c.in_err-byte.ensures.cases in
    handed_on _ _ _ _ c.from_residual.ensures.1 (far_all _ _ _ _ _ far past (omega (arith, c.loop-here.here.within, ap length same)) is)

pub returns-in_err-ok_or-clause-cases : goal.returns-in_err-ok_or-clause-cases
returns-in_err-ok_or-clause-cases c =
    let (same, far) = c.loop-here.invariant in
    let (lt, is) = rw same at c.in_ok-byte.ensures.cases in
    handed_on _ _ _ _ c.from_residual-in_err-ok_or.ensures.1 (far_refused _ _ _ _ _ lt is (omega arith) far c.take.new.self _ (rw c.in_err-ok_or.ensures.ok_part at c.take.ensures.cases) (grind arith))

pub loop-here-preserved : goal.loop-here-preserved
loop-here-preserved c =
    let (same, far) = c.loop-here.invariant in
    let (lt, is) = rw same at c.in_ok-byte.ensures.cases in
    (c.next-here.ensures.pattern ∙ same, rw c.next-here.ensures.at (far_more _ _ _ _ _ lt is (omega arith) far c.take.new.self (rw (c.in_ok-ok_or.ensures.ok_part, c.in-Inside.is) at c.take.ensures.cases)))

pub returns-in-Ended-clause-cases : goal.returns-in-Ended-clause-cases
returns-in-Ended-clause-cases c =
    let (same, far) = c.loop-here.invariant in
    let (lt, is) = rw same at c.in_ok-byte.ensures.cases in
    far_ended _ _ _ _ _ lt is (omega arith) far c.take.new.self (rw (c.in_ok-ok_or.ensures.ok_part, c.in-Ended.is) at c.take.ensures.cases)
