-- The tables of the set machine over the tables of a place machine: the sets of states that texts reach, and their moves. Assumes nothing.
--
--   initial          the set of state 0 alone, which is set 0
--   SetTables t n .. the first n of `sets` are the sets that texts reach from `initial` by t, numbered in the order of first meeting; entry
--                    256 * s + c of `moves` is the number of the set that the byte c leads to from set s; what no set uses is 0
--   Simulates t n .. what a machine over such tables keeps: set 0 is `initial`, and each move of the first n sets is to that one of them
--                    which is the set of states that the byte leads to
use Rattle.std.specs.Prelude.{◌≡◌, ℕ, ◌+◌, ◌*◌, ◌<◌, ◌≤◌, List, length, take, slice_index}
use Rattle.numbering.specs.Filling.{Moves, Blank}
use Rattle.numbering.specs.Numbering.{Numbering}
use Rattle.machines.specs.declared.place.tables.Tables.{Tables}
use Rattle.machines.specs.Place.Runs.{stepped}

abbrev pub initial : ℕ
initial = 1

pub record SetTables (t : Tables) (n : ℕ) (sets moves : List ℕ) : Type 0 where
  pub few : n ≤ 64
  pub room : length sets ≡ 64
  pub rows : length moves ≡ 16384
  pub numbers : Numbering initial (stepped t) (take n sets)
  pub moved : Moves (stepped t) (take n sets) (take (256 * n) moves)
  pub rest : Blank n sets
  pub others : Blank (256 * n) moves

abbrev pub Simulates : Tables → ℕ → List ℕ → List ℕ → Type 0
Simulates t n sets moves =
    (1 ≤ n)
    × (n ≤ 64)
    × (length sets ≡ 64)
    × (length moves ≡ 16384)
    × (slice_index sets 0 ≡ initial)
    × ((s c : ℕ) → s < n → c < 256 → (slice_index moves (256 * s + c) < n) × (slice_index sets (slice_index moves (256 * s + c)) ≡ stepped t (slice_index sets s) c))
