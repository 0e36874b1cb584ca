use Rattle.std.proofs.Common.{get_or, rules}
use Rattle.machines.specs.Place.Runs.{stepped}
use Rattle.machines.specs.Place.Shown.Running.{leg_more}
use Rattle.relations.proofs.Filling.{rows_made}
use Rattle.machines.proofs.place.PlaceMachineFolding.step.Goals as goal

pub returns : goal.returns
returns c =
    let t = c.args.self.now.tables in
    let at = c.args.at.now in
    let rows = rows_made (λ q. stepped t (get_or at.rows q 0) c.args.c) c.from_fn.ensures.items (λ i y f lt h. search rules) (λ i y f lt h. search rules) in
    record { steps = λ w bytes is. leg_more t w c.args.c at _ is rows }
