use Rattle.std.proofs.Common.{◌∙◌, ◌<◌, refl, arith, length, length-set}
use Rattle.numbering.proofs.Liking.{likes_more}
use Rattle.numbering.proofs.search.likes.Goals as goal

pub loop-c-init : goal.loop-c-init
loop-c-init g c = (refl, λ k lt. absurd (omega arith))

pub loop-c-preserved : goal.loop-c-preserved
loop-c-preserved g c =
    let at = c.loop-c in
    let room : at.c < length at.likes = let long = at.invariant.0 in let end = c.loop-c-test.true in omega arith in
    (length-set _ _ _ ∙ at.invariant.0, likes_more (g.S.Space.next c.args.space.now) at.likes at.c c.like.result room at.invariant.1 c.like.ensures.before c.like.ensures.same)
