use Rattle.std.proofs.Common.{◌≡◌, ◌-◌, ◌*◌, ◌≤◌, length, map}
use Rattle.numbering.specs.Searching.{Progress}
use Rattle.numbering.specs.Filling.{Fit}
use Rattle.numbering.proofs.search.number.Given as goal

abbrev pub invariant-loop-row : goal.invariant-loop-row
invariant-loop-row g l =
    (l.row ≤ l.count)
    × (256 * l.count ≤ length l.moves)
    × (length l.moves ≡ length l.fn.moves)
    × (Fit g.E.Entry.limit (g.P.Point.kept l.fn.cells) (map g.E.Entry.number l.fn.moves)
    → (length (g.P.Point.kept l.cells) ≡ length (g.P.Point.kept l.fn.cells))
    × Progress (g.S.Space.first l.space) (g.S.Space.next l.space) l.count (256 * l.row) (g.P.Point.kept l.fn.cells) (g.P.Point.kept l.cells) (map g.E.Entry.number l.fn.moves) (map g.E.Entry.number l.moves))

abbrev pub decreases-loop-row : goal.decreases-loop-row
decreases-loop-row g l = length l.fn.moves - l.row
