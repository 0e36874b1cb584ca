use Rattle.std.proofs.Common.{◌∙◌}
use Rattle.std.proofs.lemmas.Result.{err_from_is_err_and}
use Rattle.law.proofs.Order.{no_starts, with_starts}
use Rattle.bench_calls.proofs.building.from_starts.Goals as goal

pub returns-in_err-count : goal.returns-in_err-count
returns-in_err-count g c =
    let p = err_from_is_err_and c.from_residual.result c.from_residual.ensures.1 in
    record { outcome = λ e read. no_starts (g.Q.Question.comes c.args.question.now) c.requires.of read _ _ c.requires.starts c.requires.some c.requires.most c.requires.maps c.requires.moves c.in_err-count.ensures.outcome p.1 p.2 }

pub returns : goal.returns
returns g c =
    record {
      outcome = λ e read.
          with_starts (g.Q.Question.comes c.args.question.now) c.requires.of read _ _ c.requires.starts _ (c.build_starts.auto.maps ∙ c.requires.maps) c.in_ok-count.ensures.outcome.0
          (c.put.ensures.comes e (c.start_machine_of-machine.ensures.means e read));
    }
