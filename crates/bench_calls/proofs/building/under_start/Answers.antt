use Rattle.law.proofs.Order.{under, with_sets}
use Rattle.law.specs.Order.{AfterSets, AfterStarts}
use Rattle.bench_calls.proofs.building.under_start.Goals as goal

pub returns : goal.returns
returns g c =
    let read = c.in_ok-read.ensures.cases in
    let comes = AfterStarts c.args.rows (g.Q.Question.comes c.args.question.now) in
    record { outcome = under (AfterSets comes) read.0 read.1 (λ e read'. with_sets comes c.machine_of-place.ensures.of read' c.in_ok-count.ensures.reached c.in_ok-count.ensures.outcome.0 (c.from_starts.ensures.outcome e read')) }
