use Rattle.std.proofs.lemmas.Result.{err_from_is_err_and}
use Rattle.std.proofs.lemmas.Bool.{false≢true}
use Rattle.notation.proofs.Completes.{one_reading}
use Rattle.pattern.proofs.Outcomes.{not_both}
use Rattle.pattern.proofs.record.Pattern.read.Goals as goal

pub returns-in_err-count-clause-one_reading : goal.returns-in_err-count-clause-one_reading
returns-in_err-count-clause-one_reading c = one_reading

pub returns-in_err-count-clause-exactly : goal.returns-in_err-count-clause-exactly
returns-in_err-count-clause-exactly c =
    let p = err_from_is_err_and c.from_residual.result c.from_residual.ensures.1 in
    rw p.1 ((λ e. absurd (false≢true e)), (λ r. absurd (not_both _ _ c.in_err-count.ensures.cases r)))

pub returns-clause-one_reading : goal.returns-clause-one_reading
returns-clause-one_reading c = one_reading
