use Rattle.std.proofs.Common.{rules}
use Rattle.machines.specs.Place.Operations.{takers, LaterRow}
use Rattle.relations.specs.Masks.{LaterIn}
use Rattle.relations.proofs.Combining.{either_members, only_members, swapped}
use Rattle.relations.proofs.Filling.{rows_by, rows_by_state}
use Rattle.machines.proofs.place.tables.Tables.later.Goals as goal

pub returns : goal.returns
returns c =
    let a = c.args.self.now in
    let by = c.args.by in
    record {
      members = record {
        rows = rows_by_state (LaterRow by a) c.from_fn.ensures.items (λ i y f lt h. search rules) (λ i y f lt h. search rules);
        takes = rows_by (λ k. LaterIn by (takers a k)) c.from_fn-2.ensures.items (λ i y f lt h. search rules) (λ i y f lt h. search rules);
        accepts =
            (either_members c.only.result c.later.result
            (rw c.initial-initial.ensures.value at (swapped c.only.result (only_members c.only.result c.single.result c.has.result c.only.ensures.members c.has.ensures.cases c.single.ensures.members)))
            c.later.ensures.members).at;
      };
    }
