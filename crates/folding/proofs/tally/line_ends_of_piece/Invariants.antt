use Rattle.std.proofs.Common.{◌≡◌, ◌≤◌, take}
use Rattle.folding.specs.Tallies.{line_ends as line_ends_of}
use Rattle.folding.proofs.tally.line_ends_of_piece.Given as goal

abbrev pub invariant-loop-c : goal.invariant-loop-c
invariant-loop-c l = (l.count ≡ line_ends_of (take l.c-index l.piece)) × (l.count ≤ l.c-index)
