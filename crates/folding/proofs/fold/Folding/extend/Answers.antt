use Rattle.std.proofs.Common.{◌++◌, take, sym, ap, ◌∙◌, append_assoc}
use Rattle.std.proofs.lemmas.List.{take_more}
use Rattle.folding.proofs.Texts.{bytes_slice, bytes_append, bytes_take}
use Rattle.folding.proofs.fold.Folding.extend.Goals as goal

pub loop-c-preserved : goal.loop-c-preserved
loop-c-preserved g c w bytes is =
    let text = c.args.text.now in
    let i = c.loop-c.c-index in
    let leg = g.Self.Folding.leg c.args.self.now in
    let so_far = bytes_append w (take i text) bytes (bytes_take i text (bytes_slice text c.type_inv.text)) in
    c.step-r.ensures.steps (w ++ take i text) so_far (c.loop-c.invariant w bytes is)
    ∙ ap leg (append_assoc w (take i text) _)
    ∙ ap (λ t. leg (w ++ t)) (sym (take_more text i 0 c.loop-c-test.true))
