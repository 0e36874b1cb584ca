use Rattle.std.proofs.Common.{refl}
use Rattle.machines.specs.Place.Runs.{leg}
use Rattle.machines.specs.Place.Shown.Machine.{lost_cases}
use Rattle.machines.proofs.SetLemmas.Built.{judged}
use Rattle.machines.proofs.set.SetMachineJudging.lost.Goals as goal

pub returns : goal.returns
returns c =
    let m = c.args.self.now in
    let t = m.place.tables in
    record { cases = λ w bytes is. lost_cases t m.place.made w bytes (leg t w) refl c.set.result (judged t m.count m.sets.now m.moves.now m.simulates w bytes c.args.at.now is _ _ _ c.initial.ensures.value c.to.ensures.value c.set.ensures.value) }
