use Rattle.std.proofs.lemmas.Bool.Decides.{Decides-like}
use Rattle.law.proofs.Order.{under}
use Rattle.notation.specs.Meaning.{Matches}
use Rattle.bench_calls.specs.Answers.{Verdict, over}
use Rattle.bench_calls.proofs.building.under_place.Goals as goal

pub returns : goal.returns
returns c =
    let read = c.in_ok-read.ensures.cases in
    let text = over c.args.times c.args.text.now in
    record {
      outcome = under (λ e. Verdict (Matches e) text) read.0 read.1 (λ e read'.
          let same = (c.machine_of-place.ensures.whole c.machine_of-place.result).means e read' text c.judged.ensures.bytes in
          Decides-like c.judged.result same.0 same.1 c.judged.ensures.verdict);
    }
