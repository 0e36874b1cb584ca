use Rattle.std.proofs.Common.{ℕ}
use Rattle.std.proofs.lemmas.List.{length-replicate}
use Rattle.std.proofs.lemmas.Result.{err_from_is_err_and}
use Rattle.law.proofs.Order.{unread, under, no_sets, with_sets}
use Rattle.law.specs.Order.{AfterSets}
use Rattle.yorvuste.specs.Judgements.{Started}
use Rattle.yorvuste.proofs.judging.judge.Goals as goal

pub returns-in_err-read : goal.returns-in_err-read
returns-in_err-read c =
    let p = err_from_is_err_and c.from_residual.result c.from_residual.ensures.1 in
    record { judges = unread (AfterSets (Started c.args.text.now)) c.in_err-read.ensures.cases.0 p.1 p.2 }

pub returns-in_err-count : goal.returns-in_err-count
returns-in_err-count c =
    let p = err_from_is_err_and c.from_residual-in_err-count.result c.from_residual-in_err-count.ensures.1 in
    let read = c.in_ok-read.ensures.cases in
    let comes = Started c.args.text.now in
    record { judges = under (AfterSets comes) read.0 read.1 (λ e read'. no_sets comes c.machine_of-place.ensures.of read' c.in_err-count.ensures.reached (length-replicate {A = ℕ} 64 0) (length-replicate {A = ℕ} 16384 0) c.in_err-count.ensures.outcome p.1 p.2) }

pub returns : goal.returns
returns c =
    let read = c.in_ok-read.ensures.cases in
    let comes = Started c.args.text.now in
    record { judges = under (AfterSets comes) read.0 read.1 (λ e read'. with_sets comes c.machine_of-place.ensures.of read' c.in_ok-count.ensures.reached c.in_ok-count.ensures.outcome.0 (c.from_starts.ensures.started e read')) }
