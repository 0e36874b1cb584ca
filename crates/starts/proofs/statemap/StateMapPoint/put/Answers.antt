use Rattle.std.proofs.Common.{◌≡◌, ◌+◌, ◌-◌, ◌*◌, ◌/◌, length, drop, slice_set, sym, ap, ◌∙◌, arith}
use Rattle.std.proofs.lemmas.Bool.Decides.{Decides-ltb}
use Rattle.std.proofs.lemmas.List.{length-take, length-drop, set_past}
use Rattle.starts.proofs.Rows.{length_rows, made_of, written}
use Rattle.starts.specs.Maps.{rows}
use Rattle.starts.proofs.statemap.StateMapPoint.put.Goals as goal

pub returns-then-room-clause-cases : goal.returns-then-room-clause-cases
returns-then-room-clause-cases c = rw (length_rows c.args.cells.now) (Decides-ltb c.args.number (length c.args.cells.now / 64))

pub returns-else-room-clause-cases : goal.returns-else-room-clause-cases
returns-else-room-clause-cases c = rw (length_rows c.args.cells.now) (Decides-ltb c.args.number (length c.args.cells.now / 64))

pub returns-then-room-clause-cells : goal.returns-then-room-clause-cells
returns-then-room-clause-cells c =
    let cells = c.args.cells.now in
    let at = 64 * c.args.number in
    let width : at + 64 - at ≡ 64 = omega arith in
    let low = c.if-room.true in
    let long : length c.copy_from_slice.new.self ≡ 64 = omega (arith, c.copy_from_slice.ensures.len, length-take (at + 64 - at) (drop at cells), length-drop at cells) in
    written cells c.copy_from_slice.new.self c.args.number (at + 64 - at) low width long ∙ ap (λ ys. slice_set (rows cells) c.args.number (made_of ys)) c.copy_from_slice.ensures.after

pub returns-else-room-clause-cells : goal.returns-else-room-clause-cells
returns-else-room-clause-cells c =
    sym (set_past (rows c.args.cells.now) c.args.number c.args.self.now (let past = c.if-room.false in omega (arith, length_rows c.args.cells.now)))
