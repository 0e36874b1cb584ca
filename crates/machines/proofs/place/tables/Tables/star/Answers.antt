use Rattle.std.proofs.Common.{rules}
use Rattle.machines.specs.Place.Operations.{takers, StarRow}
use Rattle.relations.proofs.Combining.{either_members, own_members}
use Rattle.relations.proofs.Filling.{rows_by_state}
use Rattle.machines.proofs.place.tables.Tables.star.Goals as goal

pub returns : goal.returns
returns c =
    let a = c.args.self.now in
    record {
      members = record {
        rows = rows_by_state (StarRow a) c.from_fn.ensures.items (λ i y f lt h. search rules) (λ i y f lt h. search rules);
        takes = λ k p lt. (own_members (takers a k)).at p;
        accepts = (either_members a.accepts c.single.result (own_members a.accepts) (rw c.initial.ensures.value at c.single.ensures.members)).at;
      };
    }
