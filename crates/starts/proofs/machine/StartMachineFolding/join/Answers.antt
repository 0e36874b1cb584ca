use Rattle.std.proofs.Common.{ap, ◌++◌, ◌∙◌, refl}
use Rattle.folding.proofs.Texts.{bytes_append}
use Rattle.starts.specs.Runs.{leg}
use Rattle.starts.specs.Starts.{row}
use Rattle.starts.proofs.Following.{leg_low, leg_composed}
use Rattle.starts.proofs.machine.StartMachineFolding.join.Goals as goal

pub returns : goal.returns
returns g c =
    let m = c.args.self.now in
    let a = m.automaton.now in
    let low = leg_low _ (g.A.Automaton.moved a) m.count m.maps.now m.moves.now m.follows in
    record {
      joins = λ v w v_bytes w_bytes v_is w_is.
          let first = c.map.ensures.value (low v v_bytes c.args.first.now v_is) ∙ ap (row m.maps.now) v_is in
          let second = c.map-2.ensures.value (low w w_bytes c.args.second.now w_is) ∙ ap (row m.maps.now) w_is in
          let both = leg_composed _ (g.A.Automaton.moved a) m.count m.maps.now m.moves.now (g.met.A.Automaton.few a) (g.met.A.Automaton.closed a) m.follows v w v_bytes w_bytes c.states.result c.map.result c.map-2.result c.then-both.result c.states.ensures.value first second c.then-both.ensures.value in
          c.start_of.ensures.value (leg m.moves.now (v ++ w)) (low (v ++ w) (bytes_append v w v_bytes w_bytes) _ refl) both;
    }
