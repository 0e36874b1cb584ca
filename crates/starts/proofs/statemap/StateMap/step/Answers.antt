use Rattle.std.proofs.Common.{◌≡◌, ◌%◌, arith}
use Rattle.starts.specs.Maps.{to}
use Rattle.starts.proofs.Filling.{filled_none, filled_more, filled_all}
use Rattle.starts.proofs.statemap.StateMap.step.Goals as goal

pub loop-s-init : goal.loop-s-init
loop-s-init g c = filled_none (λ s. g.A.Automaton.moved c.args.automaton.now (to c.args.self.now s) c.args.c)

pub loop-s-preserved : goal.loop-s-preserved
loop-s-preserved g c =
    let low = c.loop-s-test.true in
    let few = (g.met.A.Automaton.few c.args.automaton.now).1 in
    let from : c.to.result % 64 ≡ to c.args.self.now c.loop-s.s = omega (arith, c.to.ensures.value) in
    filled_more (λ s. g.A.Automaton.moved c.args.automaton.now (to c.args.self.now s) c.args.c) c.loop-s.s c.loop-s.to _ (omega arith) c.loop-s.invariant
    (rw (c.index.ensures.value, c.next.ensures.value, c.state.ensures.value, from))

pub returns : goal.returns
returns g c =
    let past = c.loop-s-test.false in
    let few = (g.met.A.Automaton.few c.args.automaton.now).1 in
    record {
      value =
          filled_all (λ s. g.A.Automaton.moved c.args.automaton.now (to c.args.self.now s) c.args.c) (g.A.Automaton.count c.args.automaton.now) c.loop-s.s c.loop-s.to c.loop-s.invariant
          (omega (arith, c.loop-s.auto.s-end, c.states-s-end.ensures.value));
    }
