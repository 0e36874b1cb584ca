use Rattle.std.proofs.Common.{List}
use Rattle.roll.specs.Lending.{StillLent, with}
use Rattle.roll.specs.Runs.{Event, Run}
use Rattle.bundle.proofs.Filings.{Along}
use Rattle.bundle.specs.Handed.{left}
use Rattle.bundle.proofs.filing.file_all.Given as goal

abbrev pub invariant-loop-strip : goal.invariant-loop-strip
invariant-loop-strip g l =
    let was = l.initial.lent in
    let leg = g.M.Folding.leg was.machine.now in
    let means = g.M.Judging.means was.machine.now in
    ((h : List Event) → Run leg means (with l.initial.roll was) h → Along leg means (with l.initial.roll was) (left l.fn.strips) (with l.roll l.lent) (left l.strip-iterator) h)
    × StillLent was l.lent
