use Rattle.std.proofs.Common.{◌<◌, get_or, sym, subst, ◌∙◌}
use Rattle.starts.specs.Runs.{move_of}
use Rattle.starts.proofs.Leading.{led_more, led_all}
use Rattle.starts.proofs.machine.StartMachine.walk.Goals as goal

pub loop-c-preserved : goal.loop-c-preserved
loop-c-preserved g c h =
    let m = c.args.self.now in
    let i = c.loop-c.c-index in
    let so_far = c.loop-c.invariant h in
    let next = c.next-at.ensures.value so_far.0 in (
      subst (λ r. r < m.count) (sym next) (m.follows.5 c.loop-c.at (get_or c.args.text.now i 0) so_far.0 (c.type_inv.text i).fits).0,
      led_more (move_of m.moves.now) c.args.text.now i c.loop-c.at c.next-at.result c.loop-c-test.true next ∙ so_far.1,
    )

pub returns : goal.returns
returns g c = record {
  value = λ h. led_all (move_of c.args.self.now.moves.now) c.args.text.now c.loop-c.c-index c.loop-c.at c.loop-c-test.false ∙ (c.loop-c.invariant h).1;
}
