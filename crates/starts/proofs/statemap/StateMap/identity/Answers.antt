use Rattle.std.proofs.Common.{refl, arith}
use Rattle.starts.proofs.Filling.{filled_none, filled_more, filled_all}
use Rattle.starts.proofs.statemap.StateMap.identity.Goals as goal

pub loop-s-init : goal.loop-s-init
loop-s-init c = filled_none (λ s. s)

pub loop-s-preserved : goal.loop-s-preserved
loop-s-preserved c = let low = c.loop-s-test.true in filled_more (λ s. s) c.loop-s.s c.loop-s.to _ (omega arith) c.loop-s.invariant refl

pub returns : goal.returns
returns c =
    let past = c.loop-s-test.false in
    record { value = filled_all (λ s. s) c.args.states c.loop-s.s c.loop-s.to c.loop-s.invariant (omega (arith, c.loop-s.auto.s-end)) }
