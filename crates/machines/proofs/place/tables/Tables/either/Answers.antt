use Rattle.relations.proofs.Bits.{or_members}
use Rattle.machines.proofs.place.tables.Tables.either.Goals as goal

pub returns : goal.returns
returns c =
    record {
      members = record {
        rows = λ q p lt. c.union.ensures.members q p lt;
        takes = c.union-2.ensures.members;
        accepts = or_members c.args.self.now.accepts c.args.other.now.accepts;
      };
    }
