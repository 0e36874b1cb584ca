use Rattle.std.proofs.Common.{[], rules}
use Rattle.folding.proofs.Entries.{filled, cleared}
use Rattle.folding.proofs.Trees.{tree}
use Rattle.folding.proofs.cells.clear.Goals as goal

pub returns-clause-cells : goal.returns-clause-cells
returns-clause-cells g c =
    let ran = c.fill_with.ensures.ran in
    cleared (g.F.Folding.leg c.args.folding.now) c.args.cells.now c.fill_with.new.self c.fill_with.ensures.len (filled _ (g.F.Folding.leg c.args.folding.now []) _ (λ x v call. search rules) _ ran.0 ran.1)

pub returns-clause-layout : goal.returns-clause-layout
returns-clause-layout g c = tree
