use Rattle.std.proofs.Common.{◌<◌, get_or, sym, subst, ◌∙◌}
use Rattle.starts.proofs.Leading.{led_more, led_all}
use Rattle.starts.specs.Runs.{move_of}
use Rattle.machines.proofs.set.SetMachine.walk.Goals as goal

pub loop-c-preserved : goal.loop-c-preserved
loop-c-preserved c h =
    let m = c.args.self.now in
    let i = c.loop-c.c-index in
    let (low, same) = c.loop-c.invariant h in
    let next = c.next-at.ensures.value low in (
      subst (λ k. k < m.count) (sym next) (m.simulates.5 c.loop-c.at (get_or c.args.text.now i 0) low (c.type_inv.text i).fits).0,
      led_more (move_of m.moves.now) c.args.text.now i c.loop-c.at c.next-at.result c.loop-c-test.true next ∙ same,
    )

pub returns : goal.returns
returns c = record {
  value = λ h. led_all (move_of c.args.self.now.moves.now) c.args.text.now c.loop-c.c-index c.loop-c.at c.loop-c-test.false ∙ (c.loop-c.invariant h).1;
}
