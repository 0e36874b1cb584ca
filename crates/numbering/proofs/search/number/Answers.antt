use Rattle.std.proofs.Common.{◌≡◌, ◌+◌, ◌*◌, length, sym, ⊎_elim, ◌∙◌, arith}
use Rattle.std.proofs.lemmas.List.{length-map}
use Rattle.numbering.proofs.Numbers.{numbering_laws}
use Rattle.numbering.proofs.Searching.{none, finished}
use Rattle.numbering.proofs.search.number.Goals as goal

pub returns-in_err-met-clause-outcome : goal.returns-in_err-met-clause-outcome
returns-in_err-met-clause-outcome g c fit =
    let first = g.S.Space.first c.args.space.now in
    let next = g.S.Space.next c.args.space.now in
    let full = (c.in_err-met.ensures.met (omega arith)).1 in
    let empty : length (g.P.Point.kept c.args.cells.now) ≡ 0 = ⊎_elim (λ room. omega (arith, fit.0, length-map c.args.moves.now g.E.Entry.number, room)) (λ room. sym room) full in
    rw c.from_residual.ensures (rw empty (none first next))

pub returns-in_err-met-clause-laws : goal.returns-in_err-met-clause-laws
returns-in_err-met-clause-laws g c = numbering_laws (g.S.Space.first c.args.space.now) (g.S.Space.next c.args.space.now)

pub returns-in_err-count-clause-laws : goal.returns-in_err-count-clause-laws
returns-in_err-count-clause-laws g c = numbering_laws (g.S.Space.first c.args.space.now) (g.S.Space.next c.args.space.now)

pub loop-row-preserved : goal.loop-row-preserved
loop-row-preserved g c =
    let at = c.loop-row in
    let read = c.in_ok-count.ensures in
    let on : 256 * (at.row + 1) ≡ 256 * at.row + 256 = omega arith in
    let room = read.room in (
      let less = c.loop-row-test.true in let more = room.0 in omega arith,
      omega (arith, room.1, c.read.auto.moves),
      c.read.auto.moves ∙ at.invariant.2,
      λ fit.
          let so_far = at.invariant.3 fit in
          let more = read.outcome _ _ (rw so_far.0 (length-map at.moves g.E.Entry.number ∙ at.invariant.2 ∙ sym (length-map c.args.moves.now g.E.Entry.number) ∙ fit.0, fit.1)) so_far.1 in
          (more.0 ∙ so_far.0, rw on more.2),
    )

pub returns-clause-outcome : goal.returns-clause-outcome
returns-clause-outcome g c fit =
    let at = c.loop-row in
    let end : at.row ≡ at.count = let past = c.loop-row-test.false in omega (arith, at.invariant.0) in
    finished (g.S.Space.first c.args.space.now) (g.S.Space.next c.args.space.now) at.count _ _ _ _ (rw end at (at.invariant.3 fit).1)

pub returns-clause-laws : goal.returns-clause-laws
returns-clause-laws g c = numbering_laws (g.S.Space.first c.args.space.now) (g.S.Space.next c.args.space.now)
