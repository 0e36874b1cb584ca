-- What a function answers where a `?` hands its callee's fault on. Assumes nothing.
use Rattle.std.proofs.Common.{◌≡◌, Result, MatchResult}
use Rattle.std.specs.Result.{IsErrAnd}
use Rattle.std.proofs.lemmas.Result.{err_from_is_err_and}
use Rattle.fault.specs.declared.Fault.{Fault}

pub handed_on : {T : Type 0} (r : Result T Fault) (P : T → Type 0) (Q : Fault → Type 0) (f : Fault) → IsErrAnd r (λ y. y ≡ f) → Q f → MatchResult r P Q
handed_on r P Q f told held = let p = err_from_is_err_and r told in rw (p.1, p.2) held
