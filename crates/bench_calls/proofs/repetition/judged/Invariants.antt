use Rattle.std.proofs.Common.{◌≡◌}
use Rattle.folding.specs.Texts.{Bytes}
use Rattle.bench_calls.specs.Answers.{over}
use Rattle.bench_calls.proofs.repetition.judged.Given as goal

abbrev pub invariant-loop : goal.invariant-loop
invariant-loop g l = (l.leg ≡ g.M.Folding.leg l.fn.machine (over l.counter l.fn.text)) × Bytes (over l.counter l.fn.text)
