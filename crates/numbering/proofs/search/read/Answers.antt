use Rattle.std.proofs.Common.{◌≡◌, ◌+◌, ◌*◌, ◌<◌, length, map, ⊎_elim, sym, ◌∙◌, refl, arith}
use Rattle.std.proofs.lemmas.Option.{slice_get_read}
use Rattle.std.proofs.lemmas.List.{length-map, length-set, map-set}
use Rattle.numbering.proofs.Reading.{read_copied, read_met, no_room}
use Rattle.numbering.proofs.Listing.{at_map}
use Rattle.numbering.proofs.search.read.Goals.{then-like-c, else-like-c+in_ok-number}
use Rattle.numbering.proofs.search.read.Goals as goal

pub returns-in_err-number-clause-outcome : goal.returns-in_err-number-clause-outcome
returns-in_err-number-clause-outcome g c =
    let at = c.loop-c in
    let none = c.in_err-number.ensures.met in
    rw c.from_residual-in_err-number.ensures (λ were before fit so_far.
    no_room (g.S.Space.first c.args.space.now) (g.S.Space.next c.args.space.now) g.E.Entry.limit c.args.count c.args.row _ _ c.in_ok-from.from (sym c.in_ok-from.ensures.value) c.requires.row at.count at.c _ _ at.invariant.3 at.invariant.0 c.loop-c-test.true
    c.next.result c.next.ensures.value
    (λ room. (
      (none room).0,
      ⊎_elim (λ full. let tables = fit.0 in let same = (at.invariant.3 were before fit so_far).0 in omega (arith, length-map c.args.moves.now g.E.Entry.number)) (λ full. full) (none room).1,
    ))
    were before fit so_far)

pub loop-c-preserved : goal.loop-c-preserved
loop-c-preserved g c =
    let at = c.loop-c in
    let first = g.S.Space.first c.args.space.now in
    let next = g.S.Space.next c.args.space.now in
    let from = sym c.in_ok-from.ensures.value in
    let like = c.requires.likes at.c c.loop-c-test.true in
    let room : 256 * c.args.row + at.c < length at.moves = let early = c.requires.row in let byte = c.loop-c-test.true in omega (arith, at.invariant.0, at.invariant.1) in
    let entries : 256 * c.args.row + at.c < length (map g.E.Entry.number at.moves) = rw (length-map at.moves g.E.Entry.number) room in
    elim c.if-like-c.branch [
      | then-like-c w ↦
          let k = g.E.Entry.number w.index-moves-row.result in
          let read = read_copied first next g.E.Entry.limit c.args.count c.args.row _ _ c.in_ok-from.from from c.requires.row at.count at.c _ _ at.invariant.3 at.invariant.0 c.loop-c-test.true c.from-like.result k entries w.if-like-c.true (rw c.from-like.ensures (like.1 _)) (at_map g.E.Entry.number at.moves _ _ (slice_get_read at.moves (length at.moves) _ _ refl (let less = w.if-like-c.true in omega (arith, room)) w.index-moves-row.is)) in
          rw w.cells-is (rw w.count-is (rw w.moves-is (at.invariant.0, rw (length-set at.moves _ _) at.invariant.1, length-set at.moves _ _ ∙ at.invariant.2, rw (map-set g.E.Entry.number at.moves _ _) read)))
      | else-like-c+in_ok-number w ↦
          let k = g.E.Entry.number w.nth.result in
          let read = read_met first next g.E.Entry.limit c.args.count c.args.row _ _ c.in_ok-from.from from c.requires.row at.count at.c _ _ at.invariant.3 at.invariant.0 c.loop-c-test.true w.in_ok-number.met w.in_ok-number.number k _ w.next.result w.next.ensures.value entries w.in_ok-number.ensures.met w.nth.ensures.value in
          rw w.cells-is (rw w.count-is (rw w.moves-is (let more = w.in_ok-number.ensures.room.0 in omega (arith, at.invariant.0), rw (length-set at.moves _ _) (let most = w.in_ok-number.ensures.room.1 in omega (arith, at.invariant.2)), length-set at.moves _ _ ∙ at.invariant.2, rw (map-set g.E.Entry.number at.moves _ _) read)))
    ]

pub returns-clause-outcome : goal.returns-clause-outcome
returns-clause-outcome g c =
    let end : c.loop-c.c ≡ 256 = let all = c.loop-c-test.false in let most = c.loop-c.auto.c-end in omega arith in
    rw end at c.loop-c.invariant.3
