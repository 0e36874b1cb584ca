use Rattle.std.proofs.Common.{length, eqb-true, sym, ◌∙◌}
use Rattle.std.proofs.lemmas.Bool.{eq-eqb}
use Rattle.bundle.proofs.decode.right_size.Goals as goal

pub returns-then-input-le-LIMIT : goal.returns-then-input-le-LIMIT
returns-then-input-le-LIMIT c =
    let size = c.announced.ensures in (
      λ e. (eqb-true (length c.args.input.now) _ e ∙ size, c.if-input-le-LIMIT.true),
      λ right. eq-eqb (length c.args.input.now) _ (right.0 ∙ sym size),
    )
