use Rattle.std.proofs.Common.{get_or, rules}
use Rattle.machines.proofs.SetLemmas.Composing.{map_made}
use Rattle.machines.proofs.set.map.SetMap.then.Goals as goal

pub returns : goal.returns
returns c =
    let a = c.args.self.now in
    let b = c.args.second.now in
    record { value = map_made (λ s. get_or b.to (get_or a.to s 0) 0) c.from_fn.ensures.items (λ i y f lt h. search rules) (λ i y f lt h. search rules) }
