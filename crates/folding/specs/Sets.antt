-- Sets of texts, and the texts that can or cannot still be brought into one. Assumes nothing.
--
--   Hopeful M w  w, with some text after it or with none, is in M
--   Lost M w     w is not in M, whatever text comes after it
use Rattle.std.specs.Prelude.{ℕ, List, ◌++◌}
use Rattle.folding.specs.Texts.{Bytes}

abbrev pub Hopeful : (List ℕ → Type 0) → List ℕ → Type 0
Hopeful M w = (v : List ℕ) × Bytes v × M (w ++ v)

abbrev pub Lost : (List ℕ → Type 0) → List ℕ → Type 0
Lost M w = (v : List ℕ) → Bytes v → M (w ++ v) → ⊥
