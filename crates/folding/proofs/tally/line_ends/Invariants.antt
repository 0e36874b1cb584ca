use Rattle.std.proofs.Common.{◌≡◌, ◌<◌, ◌≤◌, ◌+◌}
use Rattle.std.specs.Slice.Iter.{chunks_rest, chunks_size}
use Rattle.folding.specs.Tallies.{line_ends as line_ends_of}
use Rattle.folding.proofs.tally.line_ends.Given as goal

-- what has been counted and the line ends of the pieces to come are the text's
abbrev pub invariant-loop-piece : goal.invariant-loop-piece
invariant-loop-piece l =
    (0 < chunks_size l.piece-iterator)
    × (chunks_size l.piece-iterator ≤ 255)
    × (l.count + line_ends_of (chunks_rest l.piece-iterator) ≡ line_ends_of l.text)
