use Rattle.std.proofs.Common.{◌<◌, map, Some, Decides}
use Rattle.folding.specs.Texts.{together}
use Rattle.roll.specs.Lending.{StillLent, with}
use Rattle.roll.specs.Stands.{Stands}
use Rattle.bench_calls.proofs.Rolls.{mended}
use Rattle.bench_calls.proofs.correction.corrected.Given as goal

abbrev pub invariant-loop : goal.invariant-loop
invariant-loop g l =
    let m = l.fn.lent.machine.now in
    let strips = mended l.fn.asked.text.now l.fn.asked.slot l.fn.asked.strip.now in
    (l.fn.asked.slot < 128)
    × Stands (g.M.Folding.leg m) (with l.roll l.lent) (map Some strips)
    × Decides l.verdict (g.M.Judging.means m (together strips))
    × StillLent l.fn.lent l.lent
