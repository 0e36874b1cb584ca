-- The strips that a run of slots, a run of lengths and a run of texts make. Assumes nothing.
use Rattle.std.specs.Prelude.{ℕ, List, [], ◌∷◌, take, drop}
use Rattle.bundle.specs.Layout.{Piece}
use Rattle.bundle.specs.Sizes.{word16}

abbrev pub cut : List ℕ → List ℕ → List ℕ → List Piece
cut [] ls ts = []
cut (s ∷ ss) ls ts = record { slot = s; text = take (word16 ls 0) ts } ∷ cut ss (drop 2 ls) (drop (word16 ls 0) ts)
