use Rattle.std.proofs.Common.{subst, sym}
use Rattle.machines.specs.Place.Shown.Machine.{made_inhabited}
use Rattle.law.specs.Whole.{OfPattern}
use Rattle.law.proofs.Wholly.{wholly}
use Rattle.law.proofs.set_machine_of.Goals as goal

pub returns : goal.returns
returns g c =
    let of = c.requires.of in
    record {
      over = c.new.ensures.over;
      of = subst (λ m. OfPattern c.args.pattern.now m.tables) (sym c.new.ensures.over.0) of;
      starts = c.new.ensures.starts;
      whole = λ o. wholly _ _ _ _ _ of.0 (λ e read. let is = of.1 e read.written in c.new.ensures.built.means e is.0 is.1) (made_inhabited c.new.result.place.tables c.new.result.place.made);
    }
