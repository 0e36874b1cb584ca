use Rattle.std.proofs.Common.{◌≡◌, ℕ, ◌*◌, ◌/◌, ◌≤◌, length, map, replicate, sym, ap, ◌∙◌, inr, subst, List, arith}
use Rattle.std.proofs.lemmas.List.{map-id}
use Rattle.numbering.specs.Reaching.{MoreThan}
use Rattle.numbering.proofs.Numbers.{numbering_laws}
use Rattle.starts.specs.Maps.{identity, then_byte, rows}
use Rattle.starts.proofs.Granting.{granted}
use Rattle.starts.proofs.Rows.{length_rows}
use Rattle.starts.proofs.build.build_starts.Goals as goal

pub returns-then-maps-rows-clause-laws : goal.returns-then-maps-rows-clause-laws
returns-then-maps-rows-clause-laws g c = numbering_laws (identity (g.A.Automaton.count c.args.automaton.now)) (then_byte (g.A.Automaton.count c.args.automaton.now) (g.A.Automaton.moved c.args.automaton.now))

pub returns-then-moves-rows-clause-laws : goal.returns-then-moves-rows-clause-laws
returns-then-moves-rows-clause-laws g c = numbering_laws (identity (g.A.Automaton.count c.args.automaton.now)) (then_byte (g.A.Automaton.count c.args.automaton.now) (g.A.Automaton.moved c.args.automaton.now))

-- the tables that the search is lent have the rows, and their moves
fits : (maps moves : List ℕ) (height : ℕ) → height ≤ 512 → length maps ≡ 64 * height → length moves ≡ 256 * height → (length (map (λ k. k) moves) ≡ 256 * length (rows maps)) × (length (rows maps) ≤ 65536)
fits maps moves height most long rows_long =
    let tall : length (rows maps) ≡ height = omega (arith, length_rows maps) in
    (ap length (map-id moves) ∙ rows_long ∙ ap (λ n. 256 * n) (sym tall), omega arith)

pub returns-in-Some-clause-outcome : goal.returns-in-Some-clause-outcome
returns-in-Some-clause-outcome g c =
    let count = g.A.Automaton.count c.args.automaton.now in
    let moved = g.A.Automaton.moved c.args.automaton.now in
    let height = length c.args.maps.now / 64 in
    let most : height ≤ 512 = omega arith in
    let maps = c.blank.ensures.maps ∙ ap (λ n. replicate n 0) c.if-maps-rows.false in
    let moves = c.blank.ensures.moves ∙ ap (λ n. replicate n 0) c.if-moves-rows.false in
    let long = c.blank.auto.maps ∙ c.if-maps-rows.false in
    let rows_long = c.blank.auto.moves ∙ c.if-moves-rows.false in
    granted count moved c.in-Some.count height _ _ _ _ most maps moves (c.number.auto.cells ∙ long) (c.number.auto.moves ∙ rows_long) c.number.ensures.laws
    (c.in-Some.ensures.outcome (fits _ _ height most long rows_long))

pub returns-in-None-clause-outcome : goal.returns-in-None-clause-outcome
returns-in-None-clause-outcome g c =
    let count = g.A.Automaton.count c.args.automaton.now in
    let moved = g.A.Automaton.moved c.args.automaton.now in
    let height = length c.args.maps.now / 64 in
    let most : height ≤ 512 = omega arith in
    let long = c.blank.auto.maps ∙ c.if-maps-rows.false in
    let rows_long = c.blank.auto.moves ∙ c.if-moves-rows.false in
    let tall : length (rows c.blank.new.maps) ≡ height = omega (arith, length_rows c.blank.new.maps, long) in
    let more = c.in-None.ensures.outcome (fits _ _ height most long rows_long) in
    inr (
      height,
      (omega arith, most, c.if-maps-rows.false),
      inr (
        c.if-moves-rows.false,
        subst (λ n. MoreThan n (identity count) (then_byte count moved)) tall more,
        c.fault-in-None.ensures.value,
        c.blank-in-None.ensures.maps ∙ ap (λ n. replicate n 0) (c.number.auto.cells ∙ long),
        c.blank-in-None.ensures.moves ∙ ap (λ n. replicate n 0) (c.number.auto.moves ∙ rows_long),
      ),
    )
