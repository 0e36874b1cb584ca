use Rattle.std.proofs.Common.{◌∙◌, ap, arith}
use Rattle.starts.specs.Maps.{to}
use Rattle.starts.proofs.Filling.{filled_none, filled_more, filled_all}
use Rattle.starts.proofs.statemap.StateMap.then.Goals as goal

pub loop-s-init : goal.loop-s-init
loop-s-init c = filled_none (λ s. to c.args.second.now (to c.args.self.now s))

pub loop-s-preserved : goal.loop-s-preserved
loop-s-preserved c =
    let low = c.loop-s-test.true in
    filled_more (λ s. to c.args.second.now (to c.args.self.now s)) c.loop-s.s c.loop-s.to _ (omega arith) c.loop-s.invariant
    (c.to-in-loop-s.ensures.value ∙ ap (to c.args.second.now) c.to.ensures.value)

pub returns : goal.returns
returns c =
    let past = c.loop-s-test.false in
    record { value = filled_all (λ s. to c.args.second.now (to c.args.self.now s)) c.args.states c.loop-s.s c.loop-s.to c.loop-s.invariant (omega (arith, c.loop-s.auto.s-end)) }
