use Rattle.pattern.proofs.Exits.{handed_on}
use Rattle.pattern.proofs.Outcomes.{reader_stops, left_over, assembled}
use Rattle.pattern.proofs.reading.assemble.Goals as goal

pub returns-in_err-end : goal.returns-in_err-end
returns-in_err-end g c =
    record { cases = handed_on _ _ _ _ c.from_residual.ensures.1 (reader_stops _ c.type_inv.bytes c.if-bytes-gt-LONGEST.false _ c.in_err-end.ensures.cases) }

pub returns-in-Some : goal.returns-in-Some
returns-in-Some g c =
    let (inside, _) = rw c.in_ok-end.ensures.same at c.in-Some.ensures.cases in
    record { cases = left_over _ c.type_inv.bytes c.if-bytes-gt-LONGEST.false _ _ _ c.in_ok-end.ensures.cases inside c.refuse.ensures.value }

pub returns-in-None : goal.returns-in-None
returns-in-None g c =
    let past = rw c.in_ok-end.ensures.same at c.in-None.ensures.cases in
    record { cases = assembled _ c.type_inv.bytes c.if-bytes-gt-LONGEST.false g.T.Assembly.stands _ _ c.in_ok-end.ensures.cases past }
