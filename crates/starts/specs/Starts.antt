-- The tables of the start machine over an automaton with k states: the maps that texts make, and their moves. Assumes nothing.
--
--   StartTables k moved n ..   the first n rows of `maps` are the maps that texts make, numbered in the order of first meeting; entry
--                              256 * r + c of `moves` is the number of the map that row r and then the byte c make; what no start uses is 0
--   row maps r                 the map in row r
use Rattle.std.specs.Prelude.{◌≡◌, ℕ, ◌+◌, ◌*◌, ◌/◌, ◌<◌, ◌≤◌, List, length, take, slice_index, slice_range}
use Rattle.numbering.specs.Filling.{Moves, Blank}
use Rattle.numbering.specs.Numbering.{Numbering}
use Rattle.starts.specs.Maps.{identity, then_byte, rows}
use Rattle.starts.specs.declared.statemap.StateMap.{StateMap}

pub record StartTables (k : ℕ) (moved : ℕ → ℕ → ℕ) (n : ℕ) (maps moves : List ℕ) : Type 0 where
  pub few : n ≤ length maps / 64
  pub room : length maps ≡ 64 * (length maps / 64)
  pub most : length maps / 64 ≤ 512
  pub long : length moves ≡ 256 * (length maps / 64)
  pub numbers : Numbering (identity k) (then_byte k moved) (take n (rows maps))
  pub steps : Moves (then_byte k moved) (take n (rows maps)) (take (256 * n) moves)
  pub rest : Blank (64 * n) maps
  pub others : Blank (256 * n) moves

abbrev pub row : List ℕ → ℕ → StateMap
row maps r = record { to = slice_range maps (64 * r) (64 * r + 64) }

-- what a machine over such tables keeps: row 0 is the identity, each move leads to the row of the map that it makes, and no map has two rows
abbrev pub Follows : ℕ → (ℕ → ℕ → ℕ) → ℕ → List ℕ → List ℕ → Type 0
Follows k moved n maps moves =
    (1 ≤ n)
    × (n ≤ 512)
    × (64 * n ≤ length maps)
    × (256 * n ≤ length moves)
    × ((row maps 0).to ≡ (identity k).to)
    × ((r c : ℕ) → r < n → c < 256 → (slice_index moves (256 * r + c) < n) × ((row maps (slice_index moves (256 * r + c))).to ≡ (then_byte k moved (row maps r) c).to))
    × ((i j : ℕ) → i < n → j < n → (row maps i).to ≡ (row maps j).to → i ≡ j)
