use Rattle.std.proofs.Common.{◌<◌, ◌++◌, length, sym, ap, ◌∙◌, append-nil, arith}
use lib.ListN.{length-map}
use Rattle.std.proofs.lemmas.List.{take_all}
use Rattle.folding.specs.Texts.{together}
use Rattle.folding.proofs.Gathering.{associative, fold_more}
use Rattle.folding.proofs.cells.fold.Goals as goal

pub loop-leg-init : goal.loop-leg-init
loop-leg-init g c w ts first bytes is are = is ∙ sym (ap (g.F.Folding.leg c.args.folding.now) (append-nil w))

pub loop-leg-preserved : goal.loop-leg-preserved
loop-leg-preserved g c w ts first bytes is are =
    let more : c.loop-leg.leg-index < length c.args.legs.now = c.loop-leg-test.true in
    fold_more (g.F.Folding.leg c.args.folding.now) c.args.legs.now w ts c.loop-leg.leg-index c.loop-leg.all c.leg-item.result c.join-all.result first bytes are more (c.loop-leg.invariant w ts first bytes is are) c.leg-item.is c.join-all.ensures.joins

pub returns : goal.returns
returns g c =
    let leg = g.F.Folding.leg c.args.folding.now in
    let end = c.loop-leg-test.false in
    record {
      folds = λ w ts first bytes is are.
          let long = ap length are ∙ length-map ts leg in
          c.loop-leg.invariant w ts first bytes is are ∙ ap (λ l. leg (w ++ together l)) (take_all c.loop-leg.leg-index ts (omega arith));
      associative = associative leg;
    }
