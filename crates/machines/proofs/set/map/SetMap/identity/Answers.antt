use Rattle.std.proofs.Common.{rules}
use Rattle.machines.proofs.SetLemmas.Composing.{map_made}
use Rattle.machines.proofs.set.map.SetMap.identity.Goals as goal

pub returns : goal.returns
returns c = record { value = map_made (λ s. s) c.from_fn.ensures.items (λ i y f lt h. search rules) (λ i y f lt h. search rules) }
