use Rattle.std.proofs.Common.{arith}
use Rattle.folding.proofs.Texts.{bytes_slice}
use Rattle.machines.specs.Set.Runs.{transformation}
use Rattle.machines.proofs.SetLemmas.Walking.{extends_more}
use Rattle.machines.proofs.set.SetMachineFolding.extend.Goals as goal

pub loop-done-preserved : goal.loop-done-preserved
loop-done-preserved c =
    let m = c.args.self.now in
    let text = c.args.text.now in (
      omega arith,
      extends_more (transformation m.count m.moves.now) c.args.at.now c.loop-done.map c.onward-map.result text c.loop-done.done c.min-end.result (bytes_slice text c.type_inv.text) (omega arith) c.loop-done.invariant.1 c.onward-map.ensures.extends,
    )
