-- The tables of a numbering of maps lead from map to map as the bytes do. Assumes nothing.
use Rattle.std.proofs.Common.{◌≡◌, ℕ, ◌+◌, ◌*◌, ◌/◌, ◌<◌, ◌≤◌, ◌%◌, length, take, List, Option, None, Some, MatchOption, Contains, get_or, sym, ap, subst, ◌∙◌, arith}
use Rattle.std.specs.List.{slice_get}
use Rattle.std.specs.Option.{unwrap_or}
use Rattle.std.proofs.lemmas.List.{length-take, length-take-le, get_or-take}
use Rattle.std.proofs.lemmas.Option.{slice_get_within, slice_get-get_or, get_or_from_slice_get}
use Rattle.starts.specs.Maps.{identity, then_byte, rows}
use Rattle.starts.specs.Starts.{row, StartTables, Follows}
use Rattle.starts.specs.declared.statemap.StateMap.{StateMap}
use Rattle.starts.proofs.Rows.{length_rows, row_at}

front_at : (n : ℕ) (maps : List ℕ) (r : ℕ) (d : StateMap) → n ≤ length maps / 64 → r < n → get_or (take n (rows maps)) r d ≡ row maps r
front_at n maps r d few low = get_or-take n (rows maps) r d low ∙ get_or_from_slice_get (rows maps) r (row maps r) d (row_at maps r (omega arith))

module _ (n : ℕ) (maps : List ℕ) (few : n ≤ length maps / 64) where
  length_front : length (take n (rows maps)) ≡ n
  length_front = length-take-le n (rows maps) (let long = length_rows maps in omega arith)

  -- what stands among the first n rows
  pub front : (r : ℕ) (m : StateMap) → slice_get (take n (rows maps)) r ≡ Some m → (r < n) × (row maps r ≡ m)
  front r m at =
      let within = slice_get_within (take n (rows maps)) r m at in
      let low : r < n = omega (arith, length_front) in
      (low, sym (front_at n maps r m few low) ∙ get_or_from_slice_get (take n (rows maps)) r m m at)

  pub in_front : (r : ℕ) → r < n → slice_get (take n (rows maps)) r ≡ Some (row maps r)
  in_front r low =
      slice_get-get_or (take n (rows maps)) r (row maps r) (let long = length_front in omega arith)
      ∙ ap Some (front_at n maps r (row maps r) few low)

moves_front : (n : ℕ) (moves : List ℕ) (i x : ℕ) → slice_get (take n moves) i ≡ Some x → get_or moves i 0 ≡ x
moves_front n moves i x at =
    let within = slice_get_within (take n moves) i x at in
    let low : i < n = omega (arith, length-take n moves) in
    sym (get_or-take n moves i 0 low) ∙ get_or_from_slice_get (take n moves) i x 0 at

pub tables_follow : (k : ℕ) (moved : ℕ → ℕ → ℕ) (n : ℕ) (maps moves : List ℕ) → StartTables k moved n maps moves → Follows k moved n maps moves
tables_follow k moved n maps moves tables = (first.0, let most = tables.most in omega arith, let room = tables.room in omega arith, let long = tables.long in omega arith, ap (λ m. m.to) first.1, leads, once)
  where
    few : n ≤ length maps / 64
    few = tables.few

    first : (0 < n) × (row maps 0 ≡ identity k)
    first = front n maps few 0 (identity k) tables.numbers.begins

    leads : (r c : ℕ) → r < n → c < 256 → (get_or moves (256 * r + c) 0 < n) × ((row maps (get_or moves (256 * r + c) 0)).to ≡ (then_byte k moved (row maps r) c).to)
    leads r c low byte =
        let (j, moves_to, l) = tables.steps r c (subst (λ m. r < m) (sym (length_front n maps few)) low) byte in
        let (within, is) = front n maps few j (then_byte k moved l.point c) l.to in
        let from : row maps r ≡ l.point = (front n maps few r l.point l.from).1 in
        subst (λ i. (i < n) × ((row maps i).to ≡ (then_byte k moved (row maps r) c).to)) (sym (moves_front (256 * n) moves (256 * r + c) j moves_to))
        (within, ap (λ m. m.to) (is ∙ ap (λ m. then_byte k moved m c) (sym from)))

    once : (i j : ℕ) → i < n → j < n → (row maps i).to ≡ (row maps j).to → i ≡ j
    once i j i_low j_low same =
        tables.numbers.once i j (row maps i) (in_front n maps few i i_low)
        (in_front n maps few j j_low ∙ ap (λ t. Some (record { to = t })) (sym same))

-- the start of a map is found, since no map has two rows
pub found : (k : ℕ) (moved : ℕ → ℕ → ℕ) (n : ℕ) (maps moves : List ℕ) → Follows k moved n maps moves → (m : StateMap) (r : ℕ) (o : Option ℕ) (i s : ℕ) → r < n → m ≡ row maps r → MatchOption o (Contains (take n (rows maps)) m → ⊥) (λ j. slice_get (take n (rows maps)) j ≡ Some m) → i ≡ unwrap_or o 0 → s ≡ i % 512 → s ≡ r
found k moved n maps moves follows m r None i s low is none chosen number =
    let few : n ≤ length maps / 64 = let room = follows.2 in omega arith in
    let here : slice_get (take n (rows maps)) r ≡ Some m = in_front n maps few r low ∙ ap Some (sym is) in
    absurd (none (r, slice_get_within (take n (rows maps)) r m here, get_or_from_slice_get (take n (rows maps)) r m m here))
found k moved n maps moves follows m r (Some j) i s low is at chosen number =
    let few : n ≤ length maps / 64 = let room = follows.2 in omega arith in
    let there = front n maps few j m at in
    let same : j ≡ r = follows.6 j r there.0 low (ap (λ (a : StateMap). a.to) (there.1 ∙ is)) in
    let most = follows.1 in
    omega arith
