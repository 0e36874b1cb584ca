use Rattle.std.proofs.Common.{◌≡◌, ◌^◌, sym, ap, ◌∙◌, subst}
use Rattle.std.proofs.lemmas.Nat.{one_shl}
use Rattle.relations.specs.Masks.{SetOf}
use Rattle.relations.proofs.Bits.{power_members}
use Rattle.relations.proofs.masks.single.Goals as goal

pub returns-clause-members : goal.returns-clause-members
returns-clause-members c =
    let q = c.args.q in
    let is = one_shl c.from.result 64 c.from.ensures.1 ∙ ap (λ i. 2 ^ i) c.from.ensures.0 in
    subst (λ x. SetOf x (λ p. p ≡ q)) (sym is) (record { at = power_members q })
