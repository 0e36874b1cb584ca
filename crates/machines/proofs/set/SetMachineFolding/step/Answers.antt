use Rattle.std.proofs.Common.{◌≡◌, ◌∷◌, [], sym, ◌∙◌, arith}
use Rattle.machines.proofs.SetLemmas.Simulating.{sent_more, sent_on}
use Rattle.machines.proofs.SetLemmas.Moving.{led_one}
use Rattle.machines.proofs.set.SetMachineFolding.step.Goals as goal

pub loop-s-preserved : goal.loop-s-preserved
loop-s-preserved c =
    let m = c.args.self.now in
    let few = m.simulates.1 in
    let number : c.nth-number.result ≡ c.loop-s.s = (let e = c.nth-number.ensures.value in omega arith) in
    sent_more m.count m.moves.now (c.args.c ∷ []) c.args.at.now c.loop-s.map c.send.new.self c.loop-s.s c.nth-number.result c.to.result c.next.result c.loop-s.invariant (omega arith) number c.to.ensures.value
    (λ low. c.next.ensures.value low ∙ sym (led_one m.moves.now c.args.c c.to.result))
    c.send.ensures.value

pub returns : goal.returns
returns c =
    let m = c.args.self.now in
    record { steps = λ w bytes is. sent_on m.place.tables m.count m.sets.now m.moves.now m.simulates w (c.args.c ∷ []) c.args.at.now c.loop-s.map c.loop-s.s bytes is c.loop-s.invariant (omega arith) }
