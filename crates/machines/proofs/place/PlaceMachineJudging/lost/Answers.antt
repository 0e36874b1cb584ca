use Rattle.std.proofs.Common.{ap, ◌∙◌}
use Rattle.relations.specs.Relations.{row}
use Rattle.machines.specs.Place.Shown.Machine.{lost_cases}
use Rattle.machines.proofs.place.PlaceMachineJudging.lost.Goals as goal

pub returns : goal.returns
returns c =
    let m = c.args.self.now in
    let at = c.args.at.now in
    record { cases = λ w bytes is. lost_cases m.tables m.made w bytes at is c.row.result (c.row.ensures.value ∙ ap (row at) c.initial.ensures.value) }
