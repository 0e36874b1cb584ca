use Rattle.std.proofs.Common.{IfOk, Ok, Err, Result}
use Rattle.bundle.proofs.check.answer.Goals as goal

if_ok : {T E : Type 0} {P Q : T → Type 0} → ((t : T) → P t → Q t) → (r : Result T E) → IfOk r P → IfOk r Q
if_ok from (Ok t) p = from t p
if_ok from (Err f) p = p

pub returns-in-Ok : goal.returns-in-Ok
returns-in-Ok c = record { text = if_ok (λ s text. (Ok c.in-Ok.report, c.in-Ok.ensures.outcome, text)) c.to_string.result c.to_string.ensures.ok }
