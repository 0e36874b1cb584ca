use Rattle.std.proofs.Common.{◌≡◌, arith}
use Rattle.folding.proofs.Climbing.{rising_more, risen}
use Rattle.folding.proofs.cells.climb.Goals as goal

pub loop-i-preserved : goal.loop-i-preserved
loop-i-preserved g c =
    rising_more _ _ _ _ _ _ _ _ c.loop-i.invariant c.loop-i.auto.cells (let test = c.loop-i-test.true in omega arith) c.index-cells-i.is c.index-cells-i-in-loop-i.is c.join.ensures.joins

pub returns-clause-joined : goal.returns-clause-joined
returns-clause-joined g c slots bytes wide ready =
    let end : c.loop-i.i ≡ 0 = let left = c.loop-i-test.false in omega arith in
    risen _ _ _ _ _ c.loop-i.invariant end slots bytes wide ready
