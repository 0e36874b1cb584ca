use Rattle.std.proofs.Common.{get_or, refl, arith}
use Rattle.pattern.proofs.ClassBytes.{ends_at_first, more_left, all_left}
use Rattle.pattern.proofs.class.bytes.Goals as goal

pub loop-byte-init : goal.loop-byte-init
loop-byte-init c = ends_at_first _ c.opened-class.result c.opened-class.ensures.value c.opened-class.ensures.start

pub loop-byte-preserved : goal.loop-byte-preserved
loop-byte-preserved c s written some = more_left _ s _ _ (c.loop-byte.invariant s written some) (get_or c.args.inside.now c.loop-byte.byte-index 0) c.loop-byte-test.true refl c.take.new.self _ c.take.ensures.cases

pub returns : goal.returns
returns c = record { value = λ s written some. c.bytes.ensures.value s (all_left _ s _ _ (c.loop-byte.invariant s written some) (omega arith) c.take-2.new.self _ c.take-2.ensures.cases) }
