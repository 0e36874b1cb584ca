-- The search over blank tables leaves the tables of the starts. Assumes nothing.
use Rattle.std.proofs.Common.{◌≡◌, ℕ, ◌+◌, ◌-◌, ◌*◌, ◌/◌, ◌%◌, ◌<◌, ◌≤◌, List, length, map, take, drop, replicate, get_or, sym, ap, ◌∙◌, subst, arith}
use Rattle.std.proofs.lemmas.List.{length-take, length-drop, length-replicate, map-id, same_lists, get_or-drop}
use Rattle.std.proofs.lemmas.List.Edits.{get_or-between}
use Rattle.std.proofs.lemmas.Option.{get_or_from_slice_get}
use Rattle.numbering.proofs.Blanking.{blank_after}
use Rattle.numbering.specs.Filling.{Fills, Moves}
use Rattle.numbering.specs.Laws.{NumberingLaws}
use Rattle.starts.specs.Building.{StartsGranted}
use Rattle.starts.specs.Maps.{identity, then_byte, rows}
use Rattle.starts.specs.Starts.{row}
use Rattle.starts.proofs.Rows.{length_rows, row_at}

-- a cell stands in its row
cell_at : (cells : List ℕ) (j d : ℕ) → get_or cells j d ≡ get_or (row cells (j / 64)).to (j % 64) d
cell_at cells j d =
    let at : 64 * (j / 64) + j % 64 ≡ j = omega arith in
    sym (get_or-between cells (64 * (j / 64)) (64 * (j / 64) + 64) (j % 64) d (omega arith) ∙ ap (λ i. get_or cells i d) at)

-- where no row past the first n has changed, no cell past those of the first n has
unchanged : (n height : ℕ) (were are : List ℕ) → length were ≡ 64 * height → length are ≡ 64 * height → drop n (rows are) ≡ drop n (rows were) → drop (64 * n) are ≡ drop (64 * n) were
unchanged n height were are long_were long_are rest =
    same_lists (drop (64 * n) are) (drop (64 * n) were) (omega (arith, length-drop (64 * n) are, length-drop (64 * n) were))
    (λ i d lt.
    let j = 64 * n + i in
    let inside : j < 64 * height = omega (arith, length-drop (64 * n) are) in
    get_or-drop (64 * n) are i d ∙ cell_at are j d ∙ ap (λ r. get_or r (j % 64) d) (row_same (j / 64) (omega arith) (omega arith)) ∙ sym (cell_at were j d) ∙ sym (get_or-drop (64 * n) were i d))
  where
    row_same : (r : ℕ) → n ≤ r → r < height → (row are r).to ≡ (row were r).to
    row_same r past low =
        let on : n + (r - n) ≡ r = omega arith in
        let d = row are r in
        ap (λ m. m.to)
        (sym (get_or_from_slice_get (rows are) r (row are r) d (row_at are r (omega arith)))
        ∙ ap (λ k. get_or (rows are) k d) (sym on)
        ∙ sym (get_or-drop n (rows are) (r - n) d)
        ∙ ap (λ ms. get_or ms (r - n) d) rest
        ∙ get_or-drop n (rows were) (r - n) d
        ∙ ap (λ k. get_or (rows were) k d) on
        ∙ get_or_from_slice_get (rows were) r (row were r) d (row_at were r (omega arith)))

pub granted : (k : ℕ) (moved : ℕ → ℕ → ℕ) (n height : ℕ) (were are before after : List ℕ) → height ≤ 512 → were ≡ replicate (64 * height) 0 → before ≡ replicate (256 * height) 0 → length are ≡ 64 * height → length after ≡ 256 * height → NumberingLaws (identity k) (then_byte k moved) → Fills (identity k) (then_byte k moved) n (rows were) (rows are) (map (λ i. i) before) (map (λ i. i) after) → StartsGranted k moved n are after
granted k moved n height were are before after most no_maps no_moves long rows_long laws fills =
    let tall : length are / 64 ≡ height = omega arith in
    let few : n ≤ length are / 64 = omega (arith, fills.count, length-take n (rows are), length_rows are) in (
      λ more. omega (arith, (laws.more (take n (rows are)) fills.numbers (length are / 64)).0 more, fills.count, few),
      record {
        few = few;
        room = omega arith;
        most = omega arith;
        long = rows_long ∙ ap (λ h. 256 * h) (sym tall);
        numbers = fills.numbers;
        steps = subst (λ moves. Moves (then_byte k moved) (take n (rows are)) (take (256 * n) moves)) (map-id after) fills.moved;
        rest = blank_after (64 * n) (64 * height) were are no_maps long (unchanged n height were are (ap length no_maps ∙ length-replicate (64 * height) 0) long fills.rest);
        others = blank_after (256 * n) (256 * height) before after no_moves rows_long (ap (drop (256 * n)) (sym (map-id after)) ∙ fills.others ∙ ap (drop (256 * n)) (map-id before));
      },
    )
