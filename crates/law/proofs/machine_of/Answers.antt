use Rattle.machines.specs.Place.Shown.Machine.{made_inhabited}
use Rattle.law.proofs.Wholly.{wholly}
use Rattle.law.proofs.machine_of.Goals as goal

pub returns : goal.returns
returns g c =
    let built = c.build.ensures.built in
    record {
      of = (built.read, λ e written. let is = built.is e written in (is.sane, is.tables));
      whole = λ o. wholly _ _ _ _ _ built.read (λ e read. (built.is e read.written).means) (made_inhabited c.build.result.tables c.build.result.made);
    }
