use Rattle.std.proofs.Common.{◌∷◌, length, take, drop, sym, ap, ◌∙◌, arith, length-take}
use Rattle.bundle.specs.Cuts.{cut}
use Rattle.bundle.proofs.walk.StripsIterator.next.Goals as goal

pub returns-clause-steps : goal.returns-clause-steps
returns-clause-steps c =
    let ls = c.args.self.now.lengths.now in
    let ts = c.args.self.now.texts.now in
    let size = c.word.ensures.value in
    let text = c.part.ensures.front ∙ ap (λ n. take n ts) size in
    let texts = c.part.ensures.back ∙ ap (λ n. drop n ts) size in
    let lengths = c.part-2.ensures.back in (
      ap (λ ss. cut ss ls ts) c.in_ok-slot.ensures.cases.0 ∙ sym (λ i. record { slot = c.in_ok-slot.slot.now; text = text i } ∷ cut c.in_ok-slot.slots.now (lengths i) (texts i)),
      let long = ap length c.part.ensures.front ∙ length-take c.word.result ts in
          let bound = c.word.ensures.bound in
          omega arith,
    )
