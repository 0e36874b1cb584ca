-- Tables of 64 rows, by a function of the index. Assumes nothing.
use Rattle.std.specs.Prelude.{◌≡◌, ℕ, ◌<◌, length, slice_index}
use Rattle.std.proofs.Common.{◌∙◌, arith}
use Rattle.std.proofs.lemmas.List.FromFn.{length-map-range_with_len, get_or-map-range_with_len, fill_by_all}
use Rattle.relations.specs.Relations.{rows_of}

pub length_rows : (f : ℕ → ℕ) → length (rows_of f) ≡ 64
unfolding rows_of
length_rows f = length-map-range_with_len f 0 64

pub rows_at : (f : ℕ → ℕ) (q : ℕ) → q < 64 → slice_index (rows_of f) q ≡ f q
unfolding rows_of
rows_at f q lt = get_or-map-range_with_len f 0 64 q q 0 lt (omega arith)

pub same_rows : (f g : ℕ → ℕ) → ((q : ℕ) → q < 64 → f q ≡ g q) → rows_of f ≡ rows_of g
unfolding rows_of
same_rows f g same = fill_by_all g (rows_of f) 64 0 (length_rows f) (λ k lt. rows_at f k lt ∙ same k lt)
