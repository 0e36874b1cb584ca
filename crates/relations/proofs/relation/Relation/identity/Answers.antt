use Rattle.std.proofs.Common.{◌^◌, rules}
use Rattle.relations.proofs.Filling.{rows_made}
use Rattle.relations.proofs.Composing.{same_relation}
use Rattle.relations.proofs.relation.Relation.identity.Goals as goal

pub returns : goal.returns
returns c = record { value = same_relation _ _ (rows_made (λ q. 2 ^ q) c.from_fn.ensures.items (λ i y f lt h. search rules) (λ i y f lt h. search rules)) }
