-- The texts with no byte 0. Assumes nothing.
use Rattle.std.specs.Prelude.{◌≡◌, ℕ, Bool, false, ◌||◌, List, [], ◌∷◌, ◌==◌}

-- what is kept of a text: whether it has a byte 0
abbrev pub has_zero : List ℕ → Bool
has_zero [] = false
has_zero (b ∷ w) = b == 0 || has_zero w

abbrev pub Zeroless : List ℕ → Type 0
Zeroless w = has_zero w ≡ false
