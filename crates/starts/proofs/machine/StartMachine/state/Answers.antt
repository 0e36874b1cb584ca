use Rattle.std.proofs.Common.{ap, ◌∙◌}
use Rattle.starts.specs.Starts.{row}
use Rattle.starts.proofs.Following.{leg_low, leg_state}
use Rattle.starts.proofs.machine.StartMachine.state.Goals as goal

pub returns : goal.returns
returns g c =
    let m = c.args.self.now in
    let a = m.automaton.now in
    record {
      value = λ w bytes is.
          let map = c.map.ensures.value (leg_low _ (g.A.Automaton.moved a) m.count m.maps.now m.moves.now m.follows w bytes c.args.at is) ∙ ap (row m.maps.now) is in
          leg_state _ (g.A.Automaton.moved a) m.count m.maps.now m.moves.now (g.met.A.Automaton.few a) (g.met.A.Automaton.closed a) m.follows w bytes c.map.result c.to.result _ map c.to.ensures.value c.state.ensures.value;
    }
