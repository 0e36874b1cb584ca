use Rattle.std.proofs.Common.{sym}
use Rattle.pattern.proofs.Exits.{handed_on}
use Rattle.std.proofs.lemmas.Bool.{lt-leb}
use Rattle.pattern.proofs.SignWays.{class_stops, class_part}
use Rattle.pattern.proofs.SignShapes.{no_class_lem}
use Rattle.pattern.proofs.sign.class_sign.Goals as goal

pub returns-in_err-end : goal.returns-in_err-end
returns-in_err-end c =
    let (lt, is) = c.requires.bracket in
    let refused = rw (c.next-inside.ensures.pattern, c.next-inside.ensures.at) at c.in_err-end.ensures.cases in
    record { cases = λ after. handed_on _ _ _ _ c.from_residual.ensures.1 (record { none = no_class_lem _ _ lt _ _ is refused; stops = class_stops _ _ lt _ _ is refused.stops }) }

pub returns : goal.returns
returns c =
    let (lt, is) = c.requires.bracket in
    let read = rw (c.next-inside.ensures.pattern, c.next-inside.ensures.at) at c.in_ok-end.ensures.cases in
    let inner = rw (c.next-inside.ensures.pattern, c.next-inside.ensures.at) at c.until.ensures.value in
    record { cases = λ after. record { formed = (read.symbol, rw inner read.written, read.some); part = class_part _ _ lt _ is read _ inner; ended = sym (lt-leb _ _ lt) } }
