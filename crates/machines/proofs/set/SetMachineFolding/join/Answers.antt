use Rattle.std.proofs.Common.{sym, ◌∙◌, ap₂}
use Rattle.machines.specs.Set.Maps.{composed}
use Rattle.machines.proofs.SetLemmas.Simulating.{leg_joined}
use Rattle.machines.proofs.set.SetMachineFolding.join.Goals as goal

pub returns : goal.returns
returns c =
    let m = c.args.self.now in
    record { joins = λ v w bytes _ first second. c.then.ensures.value ∙ ap₂ composed first second ∙ sym (leg_joined m.place.tables m.count m.sets.now m.moves.now m.simulates v w bytes) }
