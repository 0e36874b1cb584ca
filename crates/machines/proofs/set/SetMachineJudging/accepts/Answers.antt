use Rattle.std.specs.Prelude.{Decides}
use Rattle.std.proofs.Common.{sym, refl, subst}
use Rattle.machines.specs.Place.Runs.{leg}
use Rattle.machines.specs.Place.Tables.{Meant}
use Rattle.machines.specs.Place.Shown.Machine.{accepts_decides}
use Rattle.machines.proofs.SetLemmas.Built.{judged}
use Rattle.machines.proofs.set.SetMachineJudging.accepts.Goals as goal

pub returns : goal.returns
returns c =
    let m = c.args.self.now in
    let t = m.place.tables in
    record {
      cases = λ w bytes is.
          subst (λ b. Decides b (Meant t w)) (sym c.accepting.ensures.value)
          (accepts_decides t m.place.made w bytes (leg t w) refl c.set.result (judged t m.count m.sets.now m.moves.now m.simulates w bytes c.args.at.now is _ _ _ c.initial.ensures.value c.to.ensures.value c.set.ensures.value));
    }
