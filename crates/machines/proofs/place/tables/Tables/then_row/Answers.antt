use Rattle.std.proofs.Common.{ap, ◌∙◌}
use Rattle.machines.specs.Place.Operations.{followers}
use Rattle.relations.proofs.Combining.{either_members, only_members, same_members}
use Rattle.machines.proofs.PlaceLemmas.Then.{is_place}
use Rattle.machines.proofs.place.tables.Tables.then_row.Goals as goal

pub returns : goal.returns
returns c =
    let a = c.args.self.now in
    let b = c.args.second.now in
    let q = c.args.q in
    let first = same_members c.followers.result (followers b 0) (c.followers.ensures.value ∙ ap (followers b) c.initial.ensures.value) in
    record {
      members =
          either_members c.followers-2.result _ (same_members c.followers-2.result (followers a q) c.followers-2.ensures.value)
          (either_members c.only-across.result c.only.result
          (only_members c.only-across.result c.followers.result c.has.result c.only-across.ensures.members c.has.ensures.cases first)
          (only_members c.only.result c.followers-3.result _ c.only.ensures.members (is_place c.ne.result q c.initial-2.result c.ne.ensures c.initial-2.ensures.value) (same_members c.followers-3.result (followers b q) c.followers-3.ensures.value)));
    }
