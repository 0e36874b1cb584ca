use Rattle.std.specs.Prelude.{Decides}
use Rattle.std.proofs.Common.{sym, ap, ◌∙◌, subst}
use Rattle.relations.specs.Relations.{row}
use Rattle.machines.specs.Place.Tables.{Meant}
use Rattle.machines.specs.Place.Shown.Machine.{accepts_decides}
use Rattle.machines.proofs.place.PlaceMachineJudging.accepts.Goals as goal

pub returns : goal.returns
returns c =
    let m = c.args.self.now in
    let at = c.args.at.now in
    record {
      cases = λ w bytes is.
          subst (λ b. Decides b (Meant m.tables w)) (sym c.accepting.ensures.value)
          (accepts_decides m.tables m.made w bytes at is c.row.result (c.row.ensures.value ∙ ap (row at) c.initial.ensures.value));
    }
