use Rattle.std.proofs.Common.{◌+◌, sym, refl}
use Rattle.pattern.proofs.Numbers.{no_digit, cannot_begin, one_digit, two_digits, stuck_by}
use Rattle.pattern.proofs.repeat.number.Goals as goal

pub returns-in_default-clause-cases : goal.returns-in_default-clause-cases
returns-in_default-clause-cases c = no_digit _ _ _ _ c.args.from.within (λ k told in'. c.in_default.ensures.value _ k (in', refl) told) c.refuse.ensures.value

pub returns-then-not-can_begin-clause-cases : goal.returns-then-not-can_begin-clause-cases
returns-then-not-can_begin-clause-cases c =
    let (small, (lt, byte)) = c.in-Some.ensures.value in
    cannot_begin _ _ _ _ _ lt small byte (sym c.if-not-can_begin.ensures.value) c.refuse-then-not-can_begin.ensures.value

pub returns-in_default-digit_at-clause-cases : goal.returns-in_default-digit_at-clause-cases
returns-in_default-digit_at-clause-cases c =
    let (small, (lt, byte)) = c.in-Some.ensures.value in
    let none = rw (c.next-after.ensures.pattern, c.next-after.ensures.at) at c.in_default-digit_at.ensures.value in
    rw c.next-after.ensures.at (one_digit _ _ _ _ lt small byte (sym c.if-not-can_begin.ensures.value) (λ n told in'. absurd (none _ n (in', refl) told)))

pub returns-then-can_go_on-clause-cases : goal.returns-then-can_go_on-clause-cases
returns-then-can_go_on-clause-cases c =
    let (small, (lt, byte)) = c.in-Some.ensures.value in
    let (last, (next, second)) = rw (c.next-after.ensures.pattern, c.next-after.ensures.at) at c.in-Some-digit_at.ensures.value in
    rw (c.next.ensures.at, c.next-after.ensures.at) (two_digits _ _ _ _ _ next small last byte second (sym c.if-not-can_begin.ensures.value) (sym c.if-can_go_on.ensures.value))

pub returns-clause-cases : goal.returns-clause-cases
returns-clause-cases c =
    let (small, (lt, byte)) = c.in-Some.ensures.value in
    let (last, (next, second)) = rw (c.next-after.ensures.pattern, c.next-after.ensures.at) at c.in-Some-digit_at.ensures.value in
    rw c.next-after.ensures.at
    (one_digit _ _ _ _ lt small byte (sym c.if-not-can_begin.ensures.value)
    (λ n told _. stuck_by c.args.from.pattern.now (c.args.from.at + 1) c.args.least c.in-Some.first _ n last second (sym c.if-can_go_on.ensures.value) told))
