use Rattle.std.proofs.Common.{◌∙◌, ap}
use Rattle.folding.specs.Texts.{together}
use Rattle.starts.specs.Maps.{identity}
use Rattle.starts.specs.Runs.{leg}
use Rattle.starts.proofs.Joining.{composed_more, composed_all}
use Rattle.starts.proofs.Sending.{made_none}
use Rattle.starts.proofs.machine.StartMachine.join_all.Goals as goal

pub loop-start-init : goal.loop-start-init
loop-start-init g c texts bytes are =
    let a = c.args.self.now.automaton.now in
    c.identity-both.ensures.value ∙ ap identity c.states-states.ensures.value ∙ made_none _ (g.A.Automaton.moved a)

pub loop-start-preserved : goal.loop-start-preserved
loop-start-preserved g c texts bytes are =
    let m = c.args.self.now in
    let a = m.automaton.now in
    composed_more _ (g.A.Automaton.moved a) m.count m.maps.now m.moves.now (g.met.A.Automaton.few a) (g.met.A.Automaton.closed a) m.follows texts bytes c.args.starts.now are c.loop-start.start-index c.loop-start-test.true c.states-states.result c.nth.result c.loop-start.both c.map.result c.then-both.result c.states-states.ensures.value (c.loop-start.invariant texts bytes are) c.nth.ensures.value c.map.ensures.value c.then-both.ensures.value

pub returns : goal.returns
returns g c =
    let m = c.args.self.now in
    let a = m.automaton.now in
    record {
      joins = λ texts bytes are.
          let all = composed_all _ (g.A.Automaton.moved a) m.count m.maps.now m.moves.now (g.met.A.Automaton.few a) (g.met.A.Automaton.closed a) m.follows texts bytes c.args.starts.now are c.loop-start.start-index c.loop-start-test.false c.loop-start.both (c.loop-start.invariant texts bytes are) in
          c.start_of.ensures.value (leg m.moves.now (together texts)) all.0 all.1;
    }
