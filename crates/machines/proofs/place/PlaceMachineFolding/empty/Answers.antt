use Rattle.std.proofs.Common.{◌∙◌}
use Rattle.machines.specs.Place.Shown.Running.{leg_none}
use Rattle.machines.proofs.place.PlaceMachineFolding.empty.Goals as goal

pub returns : goal.returns
returns c = record { value = c.identity.ensures.value ∙ leg_none c.args.self.now.tables }
