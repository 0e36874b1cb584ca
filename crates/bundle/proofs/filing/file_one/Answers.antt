use Rattle.std.proofs.lemmas.Result.{err_from_is_err_and}
use Rattle.bundle.specs.Handed.{piece}
use Rattle.bundle.proofs.Filings.{one_filed, one_refused}
use Rattle.bundle.proofs.filing.file_one.Goals as goal

pub returns-in_err-file-clause-filed : goal.returns-in_err-file-clause-filed
returns-in_err-file-clause-filed g c =
    let fault = err_from_is_err_and c.from_residual-in_err-file.result c.from_residual-in_err-file.ensures.1 in
    one_refused _ _ _ _ (piece c.args.strip) _ c.from.ensures c.in_ok-open.ensures.cases _ _ _ fault.1 fault.2 c.in_err-file.ensures.files

pub returns-clause-filed : goal.returns-clause-filed
returns-clause-filed g c = one_filed _ _ _ _ (piece c.args.strip) _ c.from.ensures c.in_ok-open.ensures.cases _ c.in_ok-file.ensures.files
