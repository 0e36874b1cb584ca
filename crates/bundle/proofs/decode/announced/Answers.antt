use Rattle.std.proofs.Common.{◌+◌, ◌-◌, ◌*◌, arith}
use Rattle.bundle.proofs.Words.{sum_next}
use Rattle.bundle.proofs.decode.announced.Goals as goal

pub loop-k-preserved : goal.loop-k-preserved
loop-k-preserved c =
    let n = c.word-n.result in
    let k = c.loop-k.k in
    let at = 4 + n + 2 * k in
    let next = sum_next c.args.input.now at (4 + n + 2 * (k + 1)) (n - k) (n - (k + 1)) (omega arith) (omega arith) in
    (omega (arith, next), omega arith, omega arith)
