use Rattle.std.proofs.Common.{ap, ◌∙◌}
use Rattle.machines.specs.Place.Operations.{followers}
use Rattle.relations.proofs.Combining.{either_members, only_members, same_members}
use Rattle.machines.proofs.place.tables.Tables.star_row.Goals as goal

pub returns : goal.returns
returns c =
    let a = c.args.self.now in
    let first = same_members c.followers-2.result (followers a 0) (c.followers-2.ensures.value ∙ ap (followers a) c.initial.ensures.value) in
    record {
      members =
          either_members c.followers.result c.only.result (same_members c.followers.result (followers a c.args.q) c.followers.ensures.value)
          (only_members c.only.result c.followers-2.result c.has.result c.only.ensures.members c.has.ensures.cases first);
    }
