use Rattle.std.proofs.Common.{◌≡◌, ℕ, ◌-◌, ◌≤◌, List, length, map}
use Rattle.folding.specs.Texts.{AllBytes}
use Rattle.folding.proofs.Halving.{Halving}
use Rattle.folding.proofs.cells.first_lost.Given as goal

abbrev pub invariant-loop-to : goal.invariant-loop-to
invariant-loop-to g l =
    let leg = g.M.Folding.leg l.machine in
    (l.from ≤ l.to) × (l.to ≤ length l.legs)
    × ((texts : List (List ℕ)) → AllBytes texts → l.legs ≡ map leg texts → Halving leg (g.M.Judging.means l.machine) texts l.from l.to l.so_far)

abbrev pub decreases-loop-to : goal.decreases-loop-to
decreases-loop-to g l = l.to - l.from
