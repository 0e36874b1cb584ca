use Rattle.std.proofs.Common.{◌≡◌, ◌%◌, sym, ◌∙◌, arith}
use borrow.Author.Count.{below_more}
use Rattle.starts.proofs.Filling.{same_moved}
use Rattle.starts.proofs.build.MapsSpaceStateMap.alike.Goals as goal

pub loop-s-preserved : goal.loop-s-preserved
loop-s-preserved g c =
    let moved = g.A.Automaton.moved c.args.self.now.automaton.now in
    let low = c.loop-s-test.true in
    let at : c.loop-s.s % 64 ≡ c.loop-s.s = omega arith in
    let from = c.state-from.ensures.value ∙ at in
    let by_b : c.index.result ≡ moved c.loop-s.s c.args.b = rw (c.index.ensures.value, c.next.ensures.value, from) in
    let by_c : c.index-in-loop-s.result ≡ moved c.loop-s.s c.args.c = rw (c.index-in-loop-s.ensures.value, c.next-in-loop-s.ensures.value, from) in
    below_more (λ k. moved k c.args.b ≡ moved k c.args.c) c.loop-s.s c.loop-s.invariant (sym by_b ∙ c.if-index.false ∙ by_c)

pub returns : goal.returns
returns g c = record { same = λ _. same_moved (g.A.Automaton.count c.args.self.now.automaton.now) (g.A.Automaton.moved c.args.self.now.automaton.now) c.args.b c.args.c (λ k lt. c.loop-s.invariant k (let past = c.loop-s-test.false in omega arith)) }
