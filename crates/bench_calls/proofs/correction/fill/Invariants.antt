use Rattle.roll.specs.Lending.{StillLent, with}
use Rattle.bench_calls.proofs.Rolls.{Along}
use Rattle.bench_calls.proofs.correction.fill.Given as goal

abbrev pub invariant-loop-slot : goal.invariant-loop-slot
invariant-loop-slot g l = Along (g.M.Folding.leg l.initial.lent.machine.now) (with l.roll l.lent) l.fn.text l.rest l.slot × StillLent l.initial.lent l.lent
