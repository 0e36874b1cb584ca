use Rattle.std.proofs.Common.{◌≡◌, ℕ, ◌*◌, ◌≤◌, length, map, replicate, sym, ap, ◌∙◌, inr, subst, List, arith}
use Rattle.std.proofs.lemmas.List.{map-id}
use Rattle.machines.specs.Place.Runs.{stepped}
use Rattle.machines.specs.Set.Tables.{initial}
use Rattle.numbering.specs.Reaching.{MoreThan}
use Rattle.numbering.proofs.Numbers.{numbering_laws}
use Rattle.machines.proofs.SetLemmas.Building.{granted}
use Rattle.machines.proofs.SetLemmas.Reaching.{more_sets}
use Rattle.machines.proofs.set.build.build_sets.Goals as goal

pub returns-then-sets-ne-SETS-clause-laws : goal.returns-then-sets-ne-SETS-clause-laws
returns-then-sets-ne-SETS-clause-laws c = numbering_laws initial (stepped c.args.place.now.tables)

pub returns-then-moves-ne-MOVES-clause-laws : goal.returns-then-moves-ne-MOVES-clause-laws
returns-then-moves-ne-MOVES-clause-laws c = numbering_laws initial (stepped c.args.place.now.tables)

-- the tables that the search is lent have room for 64 sets, and their moves
fits : (sets moves : List ℕ) → length sets ≡ 64 → length moves ≡ 16384 → (length (map (λ k. k) moves) ≡ 256 * length sets) × (length sets ≤ 256)
fits sets moves long rows = (ap length (map-id moves) ∙ rows ∙ ap (λ n. 256 * n) (sym long), omega arith)

pub returns-in-Some-clause-outcome : goal.returns-in-Some-clause-outcome
returns-in-Some-clause-outcome c =
    let sets = c.blank.ensures.sets ∙ ap (λ n. replicate n 0) c.if-sets-ne-SETS.false in
    let moves = c.blank.ensures.moves ∙ ap (λ n. replicate n 0) c.if-moves-ne-MOVES.false in
    let long = c.blank.auto.sets ∙ c.if-sets-ne-SETS.false in
    let rows = c.blank.auto.moves ∙ c.if-moves-ne-MOVES.false in
    granted c.args.place.now.tables c.in-Some.count _ _ _ _ sets moves (c.number.auto.cells ∙ long) (c.number.auto.moves ∙ rows) c.number.ensures.laws (c.in-Some.ensures.outcome (fits _ _ long rows))

pub returns-in-None-clause-outcome : goal.returns-in-None-clause-outcome
returns-in-None-clause-outcome c =
    let long = c.blank.auto.sets ∙ c.if-sets-ne-SETS.false in
    let rows = c.blank.auto.moves ∙ c.if-moves-ne-MOVES.false in
    let more = c.in-None.ensures.outcome (fits _ _ long rows) in
    inr
    (inr (
      c.if-sets-ne-SETS.false,
      c.if-moves-ne-MOVES.false,
      subst (λ n. MoreThan n initial (stepped c.args.place.now.tables)) long more,
      c.fault-in-None.ensures.value,
      c.blank-in-None.ensures.sets ∙ ap (λ n. replicate n 0) (c.number.auto.cells ∙ long),
      c.blank-in-None.ensures.moves ∙ ap (λ n. replicate n 0) (c.number.auto.moves ∙ rows),
    ))

pub returns-then-sets-ne-SETS-clause-reached : goal.returns-then-sets-ne-SETS-clause-reached
returns-then-sets-ne-SETS-clause-reached c e sane of = more_sets e sane c.args.place.now.tables of

pub returns-then-moves-ne-MOVES-clause-reached : goal.returns-then-moves-ne-MOVES-clause-reached
returns-then-moves-ne-MOVES-clause-reached c e sane of = more_sets e sane c.args.place.now.tables of

pub returns-in-Some-clause-reached : goal.returns-in-Some-clause-reached
returns-in-Some-clause-reached c e sane of = more_sets e sane c.args.place.now.tables of

pub returns-in-None-clause-reached : goal.returns-in-None-clause-reached
returns-in-None-clause-reached c e sane of = more_sets e sane c.args.place.now.tables of
