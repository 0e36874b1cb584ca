-- A text is a list of numbers that are bytes; texts in a row are joined into one. Assumes nothing.
use Rattle.std.specs.Prelude.{ℕ, ◌<◌, List}
use Rattle.std.specs.List.{flat_map, AllByRecursion}

abbrev pub Bytes : List ℕ → Type 0
Bytes w = AllByRecursion (λ b. b < 256) w

abbrev pub AllBytes : List (List ℕ) → Type 0
AllBytes ws = AllByRecursion Bytes ws

abbrev pub together : List (List ℕ) → List ℕ
together ws = flat_map (λ w. w) ws
