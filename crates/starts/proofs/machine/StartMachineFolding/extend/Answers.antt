use Rattle.std.proofs.Common.{◌*◌, ◌/◌, length, drop, ap, sym, ◌∙◌}
use Rattle.std.proofs.lemmas.List.{take_rest}
use Rattle.folding.specs.Texts.{together}
use Rattle.folding.proofs.Texts.{bytes_slice, bytes_together}
use Rattle.starts.specs.Automata.{led}
use Rattle.starts.specs.Runs.{move_of, leg}
use Rattle.starts.proofs.Following.{leg_low}
use Rattle.starts.proofs.Joining.{texts_of, lanes_are, texts_bytes, texts_together}
use Rattle.starts.proofs.Leading.{led_append}
use Rattle.starts.proofs.machine.StartMachineFolding.extend.Goals as goal

pub returns-then-text-lt-LONG : goal.returns-then-text-lt-LONG
returns-then-text-lt-LONG g c =
    let m = c.args.self.now in
    let text = c.args.text.now in
    record {
      extends = λ w bytes is.
          c.walk.ensures.value (leg_low _ (g.A.Automaton.moved m.automaton.now) m.count m.maps.now m.moves.now m.follows w bytes c.args.at.now is)
          ∙ ap (led (move_of m.moves.now) text) is
          ∙ sym (led_append (move_of m.moves.now) w text 0);
    }

pub returns : goal.returns
returns g c =
    let m = c.args.self.now in
    let moves = m.moves.now in
    let text = c.args.text.now in
    let part = length text / 8 in
    let rest = drop (8 * part) text in
    record {
      extends = λ w bytes is.
          let texts = texts_of w text part in
          let all_bytes = texts_bytes w text part bytes (bytes_slice text c.type_inv.text) in
          let joined = c.join_all.ensures.joins texts all_bytes (lanes_are moves m.count text part c.from-from.result c.walk_parts-lanes.result w c.walk_parts-lanes.ensures.lanes (c.from-from.ensures.0 ∙ is)) in
          c.walk-2.ensures.value (leg_low _ (g.A.Automaton.moved m.automaton.now) m.count m.maps.now moves m.follows (together texts) (bytes_together texts all_bytes) c.join_all.result joined)
          ∙ ap (λ v. led (move_of moves) v c.join_all.result) (take_rest text (8 * part))
          ∙ ap (led (move_of moves) rest) joined
          ∙ sym (led_append (move_of moves) (together texts) rest 0)
          ∙ ap (leg moves) (texts_together w text part);
    }
