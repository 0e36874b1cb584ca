use Rattle.std.proofs.Common.{refl}
use Rattle.machines.specs.Place.Runs.{leg}
use Rattle.machines.specs.Place.Shown.Machine.{lost_cases}
use Rattle.machines.proofs.SetLemmas.Built.{moved_row}
use Rattle.machines.proofs.set.SetMachineAutomaton.dead.Goals as goal

pub returns : goal.returns
returns c =
    let m = c.args.self.now in
    let t = m.place.tables in
    record { cases = λ w bytes is. lost_cases t m.place.made w bytes (leg t w) refl c.set.result (moved_row t m.count m.sets.now m.moves.now m.simulates w bytes c.args.at _ is c.set.ensures.value) }
