use Rattle.std.proofs.Common.{◌≡◌, ℕ, List, ◌++◌, map, take}
use Rattle.folding.specs.Texts.{Bytes, AllBytes, together}
use Rattle.folding.proofs.cells.fold.Given as goal

abbrev pub invariant-loop-leg : goal.invariant-loop-leg
invariant-loop-leg g l =
    let leg = g.F.Folding.leg l.folding in
    (w : List ℕ) (ts : List (List ℕ)) → Bytes w → AllBytes ts → l.from ≡ leg w → l.legs ≡ map leg ts
    → l.all ≡ leg (w ++ together (take l.leg-index ts))
