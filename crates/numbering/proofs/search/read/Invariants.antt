use Rattle.std.proofs.Common.{◌≡◌, ◌+◌, ◌*◌, ◌≤◌, length, map}
use Rattle.numbering.specs.Searching.{Reading}
use Rattle.numbering.proofs.search.read.Given as goal

abbrev pub invariant-loop-c : goal.invariant-loop-c
invariant-loop-c g l =
    (l.initial.count ≤ l.count)
    × (256 * l.count ≤ length l.moves)
    × (length l.moves ≡ length l.initial.moves)
    × Reading (g.S.Space.first l.space) (g.S.Space.next l.space) g.E.Entry.limit l.initial.count (256 * l.row) (g.P.Point.kept l.initial.cells) (map g.E.Entry.number l.initial.moves) l.count (256 * l.row + l.c) (g.P.Point.kept l.cells) (map g.E.Entry.number l.moves)
