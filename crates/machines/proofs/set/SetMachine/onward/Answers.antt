use Rattle.std.proofs.Common.{◌≡◌, false, true, get_or, ◌∙◌, arith, rules}
use Rattle.std.proofs.lemmas.Bool.{both_ways}
use Rattle.machines.proofs.SetLemmas.Simulating.{sent_more, sent_on}
use Rattle.machines.proofs.SetLemmas.Walking.{Walked, none_marked, walked_more, walked_same}
use Rattle.machines.proofs.set.SetMachine.onward.Goals as goal
use Rattle.machines.proofs.set.SetMachine.onward.Goals.{then-not-walked-from, else-not-walked-from}

pub loop-index-init : goal.loop-index-init
loop-index-init c = (
  record { long = search rules; sent = λ s none. absurd (omega arith); kept = λ s all. search rules },
  record { long = search rules; marks = search rules; right = λ k marked. absurd (both_ways _ (none_marked 64 k) marked) },
)

pub loop-index-preserved : goal.loop-index-preserved
loop-index-preserved c =
    let m = c.args.self.now in
    let text = c.args.text.now in
    let few = m.simulates.1 in
    let from = c.to-from.result in
    let number : c.nth-number.result ≡ c.loop-index.index = (let e = c.nth-number.ensures.value in omega arith) in
    let known : Walked m.count m.moves.now text c.if-not-walked-from.walks c.if-not-walked-from.walked × (get_or c.if-not-walked-from.walked from false ≡ true) =
    elim c.if-not-walked-from.branch [
      | then-not-walked-from w ↦
          walked_more m.count m.moves.now text c.loop-index.walks c.if-not-walked-from.walks c.loop-index.walked c.if-not-walked-from.walked from w.from-then-not-walked-from.result c.loop-index.invariant.1 w.from-then-not-walked-from.ensures.0 w.walk.result (omega arith) w.walk.ensures.value (w.walks-is ∙ w.send.ensures.value) w.walked-is
      | else-not-walked-from w ↦
          walked_same m.count m.moves.now text c.loop-index.walks c.if-not-walked-from.walks c.loop-index.walked c.if-not-walked-from.walked from c.from.result c.loop-index.invariant.1 c.from.ensures.0 w.if-not-walked-from.false w.walks-is w.walked-is
    ]
    in (
      sent_more m.count m.moves.now text c.args.at.now c.loop-index.map c.send-in-loop-index.new.self c.loop-index.index c.nth-number.result from c.to.result c.loop-index.invariant.0 (omega arith) number c.to-from.ensures.value
          (λ low. c.to.ensures.value ∙ known.0.right from known.1 low)
          c.send-in-loop-index.ensures.value,
      known.0,
    )

pub returns : goal.returns
returns c =
    let m = c.args.self.now in
    record { extends = λ w bytes is. sent_on m.place.tables m.count m.sets.now m.moves.now m.simulates w c.args.text.now c.args.at.now c.loop-index.map c.loop-index.index bytes is c.loop-index.invariant.0 (omega arith) }
