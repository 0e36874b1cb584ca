use Rattle.std.proofs.Common.{refl, rules}
use Rattle.folding.proofs.Texts.{bytes_together}
use Rattle.roll.specs.Plain.{texts}
use Rattle.roll.specs.Refusals.{verdict}
use Rattle.roll.proofs.Granting.{tables_at}
use Rattle.roll.proofs.Standing.{stands_sized, stands_whole, asks}
use Rattle.roll.proofs.roll.Roll.verdict.Goals as goal

pub returns : goal.returns
returns g c = record {
  does = record {
    always = asks _ verdict _ (tables_at _ _ _ _ c.len.ensures.value c.in_ok-fit.ensures.value) refl;
    keeps = λ p stands granted.
        let all = stands_whole (g.M.Folding.leg c.args.lent.now.machine.now) c.args.lent.now.legs.now p c.whole.result (stands_sized stands) stands.bytes stands.legs c.whole.ensures.value c.whole.ensures.none in
        let bytes = bytes_together (texts p) stands.bytes in
        ((_, refl, search rules), stands);
  };
}
