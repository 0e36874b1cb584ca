use Rattle.std.proofs.Common.{◌*◌, ◌+◌, ◌<◌, ◌∙◌, ap, get_or, subst, sym, arith, rules}
use Rattle.std.proofs.Math.Nat.{mul-le-mul_left}
use Rattle.starts.specs.Runs.{move_of}
use Rattle.starts.proofs.Parting.{lanes_begin, round_more}
use Rattle.starts.proofs.machine.StartMachine.walk_parts.Goals as goal

pub loop-i-init : goal.loop-i-init
loop-i-init g c = lanes_begin _ _ _ _ _ (search rules) c.requires.starts

pub loop-j-preserved : goal.loop-j-preserved
loop-j-preserved g c =
    let m = c.args.self.now in
    let i = c.loop-i.i in
    let j = c.loop-j.j in
    let at = get_or c.loop-j.lanes j 0 in
    let text = c.args.text.now in
    let next = c.from-in-loop-j.ensures ∙ ap (move_of m.moves.now at) c.from.ensures in
    round_more (move_of m.moves.now) m.count text c.args.part c.args.from i j _ c.loop-j.lanes c.loop-j.invariant c.loop-j-test.true (omega (arith, mul-le-mul_left c.args.part c.loop-j-test.true)) next
    (subst (λ r. r < m.count) (sym next) (m.follows.5 at (get_or text (c.args.part * j + i) 0) (c.loop-j.invariant.low j) (c.type_inv.text (c.args.part * j + i)).fits).0)
