use Rattle.std.proofs.lemmas.Bool.Decides.{Decides-like}
use Rattle.law.proofs.Order.{under, with_sets}
use Rattle.law.specs.Order.{AfterSets}
use Rattle.notation.specs.Meaning.{Matches}
use Rattle.bench_calls.specs.Answers.{Verdict, over}
use Rattle.bench_calls.proofs.building.under_set.Goals as goal

pub returns : goal.returns
returns c =
    let read = c.in_ok-read.ensures.cases in
    let text = over c.args.times c.args.text.now in
    record {
      outcome = under (AfterSets (λ e. Verdict (Matches e) text)) read.0 read.1 (λ e read'.
          let same = (c.set_machine_of-set.ensures.whole c.machine_of-place.result).means e read' text c.judged.ensures.bytes in
          with_sets (λ e. Verdict (Matches e) text) c.machine_of-place.ensures.of read' c.in_ok-count.ensures.reached c.in_ok-count.ensures.outcome.0
          (Decides-like c.judged.result same.0 same.1 c.judged.ensures.verdict));
    }
