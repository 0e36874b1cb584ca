use Rattle.machines.specs.Place.Operations.{followers, takers}
use Rattle.relations.proofs.Combining.{either_members, own_members}
use Rattle.machines.proofs.place.tables.Tables.optional.Goals as goal

pub returns : goal.returns
returns c =
    let a = c.args.self.now in
    record {
      members = record {
        rows = λ q p lt. (own_members (followers a q)).at p;
        takes = λ k p lt. (own_members (takers a k)).at p;
        accepts = (either_members a.accepts c.single.result (own_members a.accepts) (rw c.initial.ensures.value at c.single.ensures.members)).at;
      };
    }
