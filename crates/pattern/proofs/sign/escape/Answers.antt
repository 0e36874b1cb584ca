use Rattle.std.proofs.Common.{◌≡◌, ◌+◌, ◌<◌, false, length, get_or, sym, ap, ◌∙◌, arith}
use Rattle.pattern.proofs.SignWays.{escape_stops}
use Rattle.notation.specs.Characters.{escapable}
use Rattle.pattern.proofs.Exits.{handed_on}
use Rattle.pattern.proofs.SignShapes.{no_escape}
use Rattle.pattern.proofs.sign.escape.Goals as goal

pub returns-in_err-byte : goal.returns-in_err-byte
returns-in_err-byte c =
    let (lt, is) = c.requires.backslash in
    let (past, fault) = rw (c.next-escaped.ensures.pattern, c.next-escaped.ensures.at) at c.in_err-byte.ensures.cases in
    let none : (c.args.from.at + 1 < length c.args.from.pattern.now) → escapable (get_or c.args.from.pattern.now (c.args.from.at + 1) 0) ≡ false = λ inside. absurd (omega arith) in
    record { cases = λ after. handed_on _ _ _ _ c.from_residual.ensures.1 (record { none = no_escape _ _ lt _ is none; stops = escape_stops _ _ lt _ _ is none fault }) }

pub returns-then-not-is_escapable : goal.returns-then-not-is_escapable
returns-then-not-is_escapable c =
    let (lt, is) = c.requires.backslash in
    let (inside, byte) = rw (c.next-escaped.ensures.pattern, c.next-escaped.ensures.at) at c.in_ok-byte.ensures.cases in
    let cannot = ap escapable byte ∙ sym c.if-not-is_escapable.ensures.value in
    record { cases = λ after. record { none = no_escape _ _ lt _ is (λ _. cannot); stops = escape_stops _ _ lt _ _ is (λ _. cannot) (rw c.next-escaped.ensures.at at c.refuse.ensures.value) } }
