use Rattle.std.proofs.Common.{sym, ◌∙◌, ap₂}
use Rattle.relations.specs.Relations.{composed}
use Rattle.machines.specs.Place.Shown.Machine.{made_narrow}
use Rattle.machines.specs.Place.Shown.Running.{leg_joined}
use Rattle.machines.proofs.place.PlaceMachineFolding.join.Goals as goal

pub returns : goal.returns
returns c =
    let m = c.args.self.now in
    record { joins = λ v w bytes _ first second. c.then.ensures.value ∙ ap₂ composed first second ∙ sym (leg_joined m.tables v w (made_narrow m.tables m.made v bytes)) }
