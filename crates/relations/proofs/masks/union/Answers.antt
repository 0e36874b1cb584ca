use Rattle.std.proofs.Common.{◌≡◌, ◌⊎◌, get_or, sym, subst, rules}
use lib.Bits.{bit_or}
use Rattle.relations.specs.Masks.{Has, SetOf}
use Rattle.relations.proofs.Combining.{either_members, own_members}
use Rattle.relations.proofs.Filling.{rows_by}
use Rattle.relations.proofs.masks.union.Goals as goal

pub returns : goal.returns
returns g c =
    let a = c.args.a.now in
    let b = c.args.b.now in
    record {
      members =
          rows_by (λ k p. Has (get_or a k 0) p ⊎ Has (get_or b k 0) p) c.from_fn.ensures.items (λ i y f lt h. search rules)
          (λ i y f lt h.
          let x = get_or a i 0 in
          let z = get_or b i 0 in
          let is : y ≡ bit_or x z = search rules in
          subst (λ v. SetOf v (λ p. Has x p ⊎ Has z p)) (sym is) (either_members x z (own_members x) (own_members z)));
    }
