-- The search over blank tables leaves the tables of the sets. Assumes nothing.
use Rattle.std.proofs.Common.{◌≡◌, ℕ, ◌*◌, ◌≤◌, List, length, map, take, drop, replicate, sym, ap, ◌∙◌, subst, arith}
use Rattle.std.proofs.lemmas.List.{length-take, map-id}
use Rattle.numbering.proofs.Blanking.{blank_after}
use Rattle.numbering.specs.Filling.{Fills, Moves}
use Rattle.numbering.specs.Laws.{NumberingLaws}
use Rattle.machines.specs.declared.place.tables.Tables.{Tables}
use Rattle.machines.specs.Place.Runs.{stepped}
use Rattle.machines.specs.Set.Building.{SetsGranted}
use Rattle.machines.specs.Set.Tables.{initial}

pub granted : (t : Tables) (n : ℕ) (were are before after : List ℕ) → were ≡ replicate 64 0 → before ≡ replicate 16384 0 → length are ≡ 64 → length after ≡ 16384 → NumberingLaws initial (stepped t) → Fills initial (stepped t) n were are (map (λ k. k) before) (map (λ k. k) after) → SetsGranted t n are after
granted t n were are before after no_sets no_moves long rows laws fills =
    let few : n ≤ 64 = omega (arith, fills.count, length-take n are, long) in (
      λ more. omega (arith, (laws.more (take n are) fills.numbers 64).0 more, fills.count, few),
      record {
        few = few;
        room = long;
        rows = rows;
        numbers = fills.numbers;
        moved = subst (λ moves. Moves (stepped t) (take n are) (take (256 * n) moves)) (map-id after) fills.moved;
        rest = blank_after n 64 were are no_sets long fills.rest;
        others = blank_after (256 * n) 16384 before after no_moves rows (ap (drop (256 * n)) (sym (map-id after)) ∙ fills.others ∙ ap (drop (256 * n)) (map-id before));
      },
    )
