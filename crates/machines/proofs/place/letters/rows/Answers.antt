use Rattle.std.proofs.Common.{◌≡◌, false, get_or, rules}
use Rattle.pattern.specs.ByteSets.{Has as HasByte}
use Rattle.relations.specs.Masks.{SetOf, Only}
use Rattle.machines.proofs.PlaceLemmas.Lettering.{row_members}
use Rattle.relations.proofs.Filling.{rows_by}
use Rattle.machines.proofs.place.letters.rows.Goals as goal

pub returns : goal.returns
returns c =
    let bytes = c.args.bytes.now in
    let place = c.single-place.result in
    let one = rw c.nth.ensures.value at c.single-place.ensures.members in
    record {
      members =
          rows_by (λ k p. (p ≡ 1) × HasByte bytes k) c.from_fn.ensures.items (λ i y f lt h. search rules)
          (λ i y f lt h. let is : SetOf y (Only (get_or bytes.has i false) place) = search rules in row_members y place _ one is);
    }
