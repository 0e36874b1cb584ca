use Rattle.std.proofs.Common.{ℕ, ◌∙◌, arith}
use Rattle.std.proofs.lemmas.List.{length-replicate}
use Rattle.std.proofs.lemmas.Result.{err_from_is_err_and}
use Rattle.law.proofs.Order.{no_starts, with_starts}
use Rattle.notation.specs.Meaning.{Matches}
use Rattle.yorvuste.specs.Judgements.{Told}
use Rattle.yorvuste.proofs.Filling.{told_same}
use Rattle.yorvuste.proofs.judging.from_starts.Goals as goal

pub returns-in_err-count : goal.returns-in_err-count
returns-in_err-count c =
    let p = err_from_is_err_and c.from_residual.result c.from_residual.ensures.1 in
    let text = c.args.text.now in
    record { started = λ e read. no_starts (λ e. Told (Matches e) text) c.requires.of read _ _ c.requires.starts {n = 96} (omega arith) (omega arith) (length-replicate {A = ℕ} 6144 0) (length-replicate {A = ℕ} 24576 0) c.in_err-count.ensures.outcome p.1 p.2 }

pub returns : goal.returns
returns c =
    let text = c.args.text.now in
    record {
      started = λ e read.
          with_starts (λ e. Told (Matches e) text) c.requires.of read _ _ c.requires.starts _ (c.build_starts.auto.maps ∙ length-replicate {A = ℕ} 6144 0) c.in_ok-count.ensures.outcome.0
          (told_same _ (Matches e) (c.start_machine_of-machine.ensures.means e read) text _ c.rolled.ensures.bytes c.rolled.ensures.told);
    }
