use Rattle.std.proofs.Common.{◌≡◌, length}
use Rattle.numbering.specs.Searching.{Likes}
use Rattle.numbering.proofs.search.likes.Given as goal

abbrev pub invariant-loop-c : goal.invariant-loop-c
invariant-loop-c g l = (length l.likes ≡ 256) × Likes (g.S.Space.next l.space) l.c l.likes
