use Rattle.std.proofs.Common.{ℕ, inr, subst, sym}
use Rattle.std.proofs.lemmas.List.{length-replicate}
use Rattle.std.proofs.lemmas.Result.{err_from_is_err_and}
use Rattle.std.specs.List.{AllByRecursion}
use Rattle.law.proofs.Order.{unread, under, no_sets, with_sets}
use Rattle.law.specs.Order.{AfterSets}
use Rattle.bundle.specs.Checks.{Checked, Started}
use Rattle.bundle.specs.Handed.{strips_of}
use Rattle.bundle.specs.Layout.{OfBytes}
use Rattle.bundle.proofs.check.check.Goals as goal

pub returns-in_err-read : goal.returns-in_err-read
returns-in_err-read c =
    let p = err_from_is_err_and c.from_residual-in_err-read.result c.from_residual-in_err-read.ensures.1 in
    let bundle = c.in_ok-bundle.ensures.cases in
    let strips = strips_of c.in_ok-bundle.bundle in
    record { outcome = inr (bundle.0, (_, _, bundle.1, subst (λ x. Checked x strips c.from_residual-in_err-read.result) c.pattern.ensures.value (unread (AfterSets (Started strips)) c.in_err-read.ensures.cases.0 p.1 p.2))) }

pub returns-in_err-count : goal.returns-in_err-count
returns-in_err-count c =
    let p = err_from_is_err_and c.from_residual-in_err-count.result c.from_residual-in_err-count.ensures.1 in
    let bundle = c.in_ok-bundle.ensures.cases in
    let read = c.in_ok-read.ensures.cases in
    let strips = strips_of c.in_ok-bundle.bundle in
    record {
      outcome = inr (
        bundle.0,
        (
          _,
          _,
          bundle.1,
          subst (λ x. Checked x strips c.from_residual-in_err-count.result) c.pattern.ensures.value
              (under (AfterSets (Started strips)) read.0 read.1 (λ e read'. no_sets (Started strips) c.machine_of-place.ensures.of read' c.in_err-count.ensures.reached (length-replicate {A = ℕ} 64 0) (length-replicate {A = ℕ} 16384 0) c.in_err-count.ensures.outcome p.1 p.2)),
        ),
      );
    }

pub returns : goal.returns
returns c =
    let bundle = c.in_ok-bundle.ensures.cases in
    let read = c.in_ok-read.ensures.cases in
    let handed = c.strips.ensures.value in
    let strips = strips_of c.in_ok-bundle.bundle in
    record {
      outcome = inr (
        bundle.0,
        (
          _,
          _,
          bundle.1,
          subst (λ x. Checked x strips c.judge.result) c.pattern.ensures.value
              (under (AfterSets (Started strips)) read.0 read.1 (λ e read'.
              with_sets (Started strips) c.machine_of-place.ensures.of read' c.in_ok-count.ensures.reached c.in_ok-count.ensures.outcome.0
              (subst (λ ss. Started ss e c.judge.result) handed (c.judge.ensures.started e read' (subst (AllByRecursion OfBytes) (sym handed) c.in_ok-bundle.ensures.bytes.1))))),
        ),
      );
    }
