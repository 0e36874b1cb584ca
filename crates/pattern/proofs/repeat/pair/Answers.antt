use Rattle.std.proofs.lemmas.Result.{MatchResult-at_ok}
use Rattle.pattern.proofs.CountWays.{braced_read, braced_ok}
use Rattle.pattern.proofs.repeat.pair.Goals as goal

pub unwrap-requires : goal.unwrap-requires
unwrap-requires c = let (m, n, braced) = c.requires.written in braced_ok _ m n _ _ braced (rw (c.next.ensures.pattern, c.next.ensures.at) at c.counts.ensures.cases)

pub returns : goal.returns
returns c =
    let (m, n, braced) = c.requires.written in
    record { value = braced_read _ m n _ _ _ braced (rw (c.next.ensures.pattern, c.next.ensures.at) at (MatchResult-at_ok _ _ _ c.unwrap.ensures c.counts.ensures.cases)) }
