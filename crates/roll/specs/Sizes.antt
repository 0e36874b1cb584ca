-- How many slots a roll may have, and how many bytes a strip. Assumes nothing.
use Rattle.std.specs.Prelude.{ℕ, Bool, ◌||◌, ◌==◌}

-- 1, 2, 4 and so on to 128
abbrev pub allowed : ℕ → Bool
allowed n = n == 1 || (n == 2 || (n == 4 || (n == 8 || (n == 16 || (n == 32 || (n == 64 || n == 128))))))

-- a roll as made has no slots
abbrev pub sized : ℕ → Bool
sized n = n == 0 || allowed n

abbrev pub longest : ℕ
longest = 1000000
