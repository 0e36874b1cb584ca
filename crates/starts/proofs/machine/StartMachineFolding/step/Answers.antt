use Rattle.std.proofs.Common.{sym, ap, ◌∙◌}
use Rattle.starts.specs.Runs.{move_of}
use Rattle.starts.proofs.Following.{leg_low}
use Rattle.starts.proofs.Leading.{led_push}
use Rattle.starts.proofs.machine.StartMachineFolding.step.Goals as goal

pub returns : goal.returns
returns g c =
    let m = c.args.self.now in
    record {
      steps = λ w bytes is.
          c.next.ensures.value (leg_low _ (g.A.Automaton.moved m.automaton.now) m.count m.maps.now m.moves.now m.follows w bytes c.args.at.now is)
          ∙ ap (λ r. move_of m.moves.now r c.args.c) is
          ∙ sym (led_push (move_of m.moves.now) w c.args.c 0);
    }
