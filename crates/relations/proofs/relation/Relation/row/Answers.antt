use Rattle.std.proofs.Common.{get_or, ap}
use Rattle.relations.proofs.relation.Relation.row.Goals as goal

pub returns : goal.returns
returns c = record { value = ap (λ q. get_or c.args.self.now.rows q 0) c.from.ensures.0 }
