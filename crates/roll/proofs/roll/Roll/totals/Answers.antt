use Rattle.std.proofs.Common.{refl, ap}
use Rattle.folding.specs.Tallies.{tally}
use Rattle.roll.specs.Calls.{tallied}
use Rattle.roll.specs.Refusals.{totals}
use Rattle.roll.proofs.Granting.{tables_at}
use Rattle.roll.proofs.Standing.{stands_sized, stands_whole, asks}
use Rattle.roll.proofs.roll.Roll.totals.Goals as goal

pub returns : goal.returns
returns g c = record {
  does = record {
    always = asks _ totals _ (tables_at _ _ _ _ c.len.ensures.value c.in_ok-fit.ensures.value) refl;
    keeps = λ p stands granted. (ap tallied (stands_whole tally c.args.lent.now.tallies.now p c.whole.result (stands_sized stands) stands.bytes stands.tallies c.whole.ensures.value c.whole.ensures.none), stands);
  };
}
