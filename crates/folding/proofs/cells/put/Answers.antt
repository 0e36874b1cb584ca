use Rattle.std.proofs.Common.{length, ap, ◌∙◌, arith, length-append, length-set}
use Rattle.folding.specs.Cells.{cells}
use Rattle.folding.proofs.Entries.{length_cells}
use Rattle.folding.proofs.Putting.{put_cells, put_spared}
use Rattle.folding.proofs.cells.put.Goals as goal

pub returns-then-slot-n-clause-cells : goal.returns-then-slot-n-clause-cells
returns-then-slot-n-clause-cells g c slots rest w bytes short byte lt was one =
    let over = c.if-slot-n.true in
    let leg = g.F.Folding.leg c.args.folding.now in
    let long = ap length was ∙ length-append (cells leg slots) rest in
    let size = length_cells leg slots in
    absurd (omega arith)

pub returns-clause-cells : goal.returns-clause-cells
returns-clause-cells g c =
    let lt = c.if-slot-n.false in
    put_cells (g.F.Folding.leg c.args.folding.now) _ c.args.slot _ _ _ (omega arith) (omega arith) _ (c.climb.auto.cells ∙ length-set _ _ _) c.climb.ensures.others (omega arith) c.climb.ensures.joined

pub returns-clause-others : goal.returns-clause-others
returns-clause-others g c =
    let lt = c.if-slot-n.false in
    put_spared (g.F.Folding.leg c.args.folding.now) _ c.args.slot _ _ _ (omega arith) (omega arith) _ c.climb.ensures.others (omega arith)
