use Rattle.std.proofs.Common.{length}
use Rattle.yorvuste.proofs.Filling.{Along}
use Rattle.roll.specs.Lending.{StillLent, with}
use Rattle.yorvuste.proofs.judging.file_all.Given as goal

abbrev pub invariant-loop-rest : goal.invariant-loop-rest
invariant-loop-rest g l = Along (g.M.Folding.leg l.initial.lent.machine.now) (with l.roll l.lent) l.fn.text l.rest l.slot × StillLent l.initial.lent l.lent

abbrev pub decreases-loop-rest : goal.decreases-loop-rest
decreases-loop-rest g l = length l.rest
