-- The texts whose length is a multiple of three. Assumes nothing.
use Rattle.std.specs.Prelude.{◌≡◌, ℕ, ◌%◌, List, length}

-- what is kept of a text: its byte count, by threes
abbrev pub rest : List ℕ → ℕ
rest w = length w % 3

abbrev pub ByThrees : List ℕ → Type 0
ByThrees w = rest w ≡ 0
