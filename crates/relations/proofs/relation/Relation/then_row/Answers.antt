use Rattle.std.proofs.Common.{ap, ◌∙◌}
use Rattle.relations.specs.Masks.{image}
use Rattle.relations.proofs.relation.Relation.then_row.Goals as goal

pub returns : goal.returns
returns c = record { value = c.image.ensures.value ∙ ap (image c.args.second.now.rows) c.row.ensures.value }
