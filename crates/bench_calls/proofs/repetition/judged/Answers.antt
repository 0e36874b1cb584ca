use Rattle.std.proofs.Common.{◌≡◌, sym, subst}
use Rattle.folding.specs.Texts.{Bytes}
use Rattle.folding.proofs.Texts.{bytes_slice, bytes_append}
use Rattle.bench_calls.specs.Answers.{over}
use Rattle.bench_calls.proofs.Over.{over_more}
use Rattle.bench_calls.proofs.repetition.judged.Goals as goal

pub loop-init : goal.loop-init
unfolding over
loop-init g c = (c.empty-leg.ensures.value, tt)

pub loop-preserved : goal.loop-preserved
loop-preserved g c =
    let text = c.args.text.now in
    let was = over c.loop.counter text in
    let more = sym (over_more c.loop.counter text) in
    subst (λ w. (c.extend-leg.result ≡ g.M.Folding.leg c.args.machine.now w) × Bytes w) more
    (c.extend-leg.ensures.extends was c.loop.invariant.1 c.loop.invariant.0, bytes_append was text c.loop.invariant.1 (bytes_slice _ c.type_inv.text))
