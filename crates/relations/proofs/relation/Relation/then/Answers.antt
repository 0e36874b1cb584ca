use Rattle.std.proofs.Common.{get_or, rules}
use Rattle.relations.specs.Masks.{image}
use Rattle.relations.proofs.Filling.{rows_made}
use Rattle.relations.proofs.Composing.{same_relation, composed_by, associative}
use Rattle.relations.proofs.relation.Relation.then.Goals as goal

pub returns : goal.returns
returns c =
    let a = c.args.self.now in
    let b = c.args.second.now in
    let is = same_relation _ _ (rows_made (λ q. image b.rows (get_or a.rows q 0)) c.from_fn.ensures.items (λ i y f lt h. search rules) (λ i y f lt h. search rules)) in
    record { value = is; members = composed_by a b _ is; associative = associative }
