use Rattle.std.proofs.Common.{rules}
use Rattle.machines.specs.Place.Operations.{ThenRow}
use Rattle.relations.proofs.Combining.{either_members, only_members, own_members}
use Rattle.relations.proofs.Filling.{rows_by_state}
use Rattle.machines.proofs.place.tables.Tables.then.Goals as goal

pub returns : goal.returns
returns c =
    let a = c.args.self.now in
    let b = c.args.second.now in
    record {
      members = record {
        rows = rows_by_state (ThenRow a b) c.from_fn.ensures.items (λ i y f lt h. search rules) (λ i y f lt h. search rules);
        takes = c.union.ensures.members;
        accepts =
            (either_members c.places.result c.only-own.result c.places.ensures.members
            (rw c.initial.ensures.value at (only_members c.only-own.result a.accepts c.has.result c.only-own.ensures.members c.has.ensures.cases (own_members a.accepts)))).at;
      };
    }
