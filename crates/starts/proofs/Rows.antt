-- What stands in the rows of a table of maps. Assumes nothing.
use borrow.Rule.Slice.PartMut.{put_mid}
use Rattle.std.proofs.Common.{◌≡◌, ◌≢◌, ℕ, zero, suc, ◌+◌, ◌-◌, ◌*◌, ◌/◌, ◌<◌, ◌≤◌, List, ◌++◌, length, map, take, drop, get_or, slice_set, length-set, Option, Some, None, Contains, MatchOption, refl, sym, ap, ap₂, subst, ⊎_elim, ◌∙◌, arith}
use Rattle.std.specs.List.{slice_get, slice_range, AllWithin, HoldsAt}
use Rattle.std.specs.Option.{option_map}
use Rattle.std.specs.Simd.{first_chunks}
use Rattle.std.proofs.lemmas.Bool.{cases_lt, cases_eq}
use Rattle.std.proofs.lemmas.List.{drop-drop, length-map, take-map, get_or-map, get_or-set_same, get_or-set_other, length-append, length-take, length-drop}
use Rattle.std.proofs.lemmas.List.FromFn.{length-map-range_with_len, get_or-map-range_with_len, fill_by_all}
use Rattle.std.proofs.lemmas.Option.{slice_get-get_or, slice_get_past, slice_get-map, slice_get_read, get_or_from_slice_get}
use Rattle.std.proofs.lemmas.Slice.{between_is, between-put_mid, take-put_mid_below, drop-put_mid}
use Rattle.starts.specs.Maps.{rows}
use Rattle.starts.specs.Starts.{row}
use Rattle.starts.specs.declared.statemap.StateMap.{StateMap}

abbrev pub made_of : List ℕ → StateMap
made_of cells = record { to = cells }

pub length_rows : (cells : List ℕ) → length (rows cells) ≡ length cells / 64
unfolding rows
length_rows cells = length-map-range_with_len (row cells) 0 (length cells / 64)

pub row_at : (cells : List ℕ) (r : ℕ) → r < length cells / 64 → slice_get (rows cells) r ≡ Some (row cells r)
unfolding rows
row_at cells r lt =
    slice_get-get_or (rows cells) r (row cells r) (let long = length_rows cells in omega arith)
    ∙ ap Some (get_or-map-range_with_len (row cells) 0 (length cells / 64) r r (row cells r) lt (omega arith))

pub row_past : (cells : List ℕ) (r : ℕ) → length cells / 64 ≤ r → slice_get (rows cells) r ≡ None
row_past cells r le = slice_get_past (rows cells) r (let long = length_rows cells in omega arith)

chunk_at : (k i : ℕ) (cells : List ℕ) → i < k → slice_get (first_chunks 64 k cells) i ≡ Some (slice_range cells (64 * i) (64 * i + 64))
chunk_at zero i cells lt = absurd (omega arith)
chunk_at (suc k) zero cells lt = refl
chunk_at (suc k) (suc i) cells lt =
    let on : 64 + 64 * i ≡ 64 * suc i = omega arith in
    let long : 64 * i + 64 - 64 * i ≡ 64 * suc i + 64 - 64 * suc i = omega arith in
    chunk_at k i (drop 64 cells) (omega arith) ∙ ap₂ (λ m xs. Some (take m xs)) long (drop-drop (64 * i) 64 cells ∙ ap (λ n. drop n cells) on)

length_chunks : (k : ℕ) (cells : List ℕ) → length (first_chunks 64 k cells) ≡ k
length_chunks zero cells = refl
length_chunks (suc k) cells = ap suc (length_chunks k (drop 64 cells))

-- the rows are the chunks of 64 cells
pub chunked : (cells : List ℕ) → map made_of (first_chunks 64 (length cells / 64) cells) ≡ rows cells
unfolding rows
chunked cells =
    let k = length cells / 64 in
    let f : List ℕ → StateMap = made_of in
    fill_by_all (row cells) (map f (first_chunks 64 k cells)) k (row cells 0) (length-map (first_chunks 64 k cells) f ∙ length_chunks k cells)
    (λ r lt. get_or_from_slice_get (map f (first_chunks 64 k cells)) r (row cells r) (row cells 0) (slice_get-map f (first_chunks 64 k cells) r ∙ ap (option_map f) (chunk_at k r cells lt)))

-- what a chunk holds is a row
pub held : (cells at : List ℕ) (r : ℕ) (chunks : List (List ℕ)) → chunks ≡ first_chunks 64 (length cells / 64) cells → r < length chunks → at ≡ get_or chunks r at → ◌≡◌ {A = Option StateMap} (Some (made_of at)) (slice_get (rows cells) r)
held cells at r chunks are lt is =
    let f : List ℕ → StateMap = made_of in
    sym (slice_get-map f chunks r ∙ ap (option_map f) (slice_get_read chunks (length chunks) r at refl lt is)) ∙ ap (λ xs. slice_get (map f xs) r) are ∙ ap (λ xs. slice_get xs r) (chunked cells)

found_among : (xs : List (List ℕ)) (m : StateMap) (r : Option ℕ) → MatchOption r (AllWithin (λ x. x ≢ m.to) xs 0 (length xs)) (λ i. (i < length xs) × HoldsAt (λ x. x ≡ m.to) xs i × AllWithin (λ x. x ≢ m.to) xs 0 i) → MatchOption r (Contains (map made_of xs) m → ⊥) (λ i. slice_get (map made_of xs) i ≡ Some m)
found_among xs m None none = λ has.
    let f : List ℕ → StateMap = made_of in
    let low : has.0 < length xs = omega (arith, has.1, length-map xs f) in
    none has.0 m.to (omega arith) low (ap (λ (n : StateMap). n.to) (sym (get_or-map f xs has.0 m.to m low) ∙ has.2))
found_among xs m (Some i) (lt, is, first) =
    let f : List ℕ → StateMap = made_of in
    slice_get-map f xs i ∙ ap (option_map f) (slice_get-get_or xs i m.to lt ∙ ap Some (is m.to))

-- the first of the first n chunks that is the map's is the first of its rows
pub found : (cells : List ℕ) (n : ℕ) (m : StateMap) (r : Option ℕ) → (let chunks = take n (first_chunks 64 (length cells / 64) cells) in MatchOption r (AllWithin (λ x. x ≢ m.to) chunks 0 (length chunks)) (λ i. (i < length chunks) × HoldsAt (λ x. x ≡ m.to) chunks i × AllWithin (λ x. x ≢ m.to) chunks 0 i)) → MatchOption r (Contains (take n (rows cells)) m → ⊥) (λ i. slice_get (take n (rows cells)) i ≡ Some m)
found cells n m r first =
    let chunks = first_chunks 64 (length cells / 64) cells in
    subst (λ xs. MatchOption r (Contains xs m → ⊥) (λ i. slice_get xs i ≡ Some m))
    (sym (take-map made_of n chunks) ∙ ap (take n) (chunked cells)) (found_among (take n chunks) m r first)

-- a row that is written leaves the others
other_row : (cells ys : List ℕ) (r k width : ℕ) → 64 * r + 64 ≤ length cells → width ≡ 64 → length ys ≡ 64 → k ≢ r → row (put_mid (64 * r) width cells ys) k ≡ row cells k
other_row cells ys r k width room is long apart =
    ⊎_elim
    (λ lt. ap made_of (between_is (put_mid (64 * r) width cells ys) (64 * k) (64 * k + 64) ∙ ap (drop (64 * k)) (take-put_mid_below (64 * r) width cells ys (64 * k + 64) (omega arith) (omega arith)) ∙ sym (between_is cells (64 * k) (64 * k + 64))))
    (λ le. ap (λ xs. made_of (take (64 * k + 64 - 64 * k) xs)) (drop-put_mid (64 * r) width cells ys (64 * k) (omega arith) (omega arith) (omega arith)))
    (cases_lt k r)

pub written : (cells ys : List ℕ) (r width : ℕ) → r < length cells / 64 → width ≡ 64 → length ys ≡ 64 → rows (put_mid (64 * r) width cells ys) ≡ slice_set (rows cells) r (made_of ys)
unfolding rows
written cells ys r width lt is long =
    let room : 64 * r + 64 ≤ length cells = omega arith in
    let after : List ℕ = put_mid (64 * r) width cells ys in
    let same : length after ≡ length cells = omega (arith, length-take (64 * r) cells, length-append ys (drop width (drop (64 * r) cells)), length-append (take (64 * r) cells) (ys ++ drop width (drop (64 * r) cells)), length-drop width (drop (64 * r) cells), length-drop (64 * r) cells) in
    let d : StateMap = made_of ys in
    sym
    (fill_by_all (row after) (slice_set (rows cells) r d) (length after / 64) d (length-set (rows cells) r d ∙ length_rows cells ∙ ap (λ n. n / 64) (sym same))
    (λ k low.
    let low' : k < length cells / 64 = omega arith in
    ⊎_elim
    (λ e.
    rw e
    (get_or-set_same (rows cells) r d d (let rows_are = length_rows cells in omega arith)
    ∙ ap made_of (sym (between-put_mid (64 * r) width cells ys (64 * r + 64) (omega arith) (omega arith)))))
    (λ ne. get_or-set_other (rows cells) r k d d ne ∙ get_or_from_slice_get (rows cells) k (row cells k) d (row_at cells k low') ∙ sym (other_row cells ys r k width room is long ne))
    (cases_eq k r)))
