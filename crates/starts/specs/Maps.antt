-- Maps of the states of an automaton, a row of 64 bytes to each. Assumes nothing.
--
--   map_of n f             f s at each s below n, and 0 at the states that there are not
--   to m s                 where m sends s
--   identity n             each of n states stays where it is
--   composed n a b         a and then b
--   then_byte n moved m c   m and then the byte c
--   made n moved w         the map that the text w makes
--   rows cells             the maps that a table of cells holds
use Rattle.std.specs.Prelude.{ℕ, ◌+◌, ◌*◌, ◌/◌, ◌%◌, cond, List, length, map, nat_lt, slice_index, slice_range}
use Rattle.std.specs.List.{range_with_len}
use Rattle.starts.specs.Automata.{led}
use Rattle.starts.specs.declared.statemap.StateMap.{StateMap}

unfoldable pub map_of : ℕ → (ℕ → ℕ) → StateMap
map_of n f = record { to = map (λ s. cond (nat_lt s n) (f s) 0) (range_with_len 0 64) }

abbrev pub to : StateMap → ℕ → ℕ
to m s = slice_index m.to s % 64

abbrev pub identity : ℕ → StateMap
identity n = map_of n (λ s. s)

abbrev pub composed : ℕ → StateMap → StateMap → StateMap
composed n a b = map_of n (λ s. to b (to a s))

abbrev pub then_byte : ℕ → (ℕ → ℕ → ℕ) → StateMap → ℕ → StateMap
then_byte n moved m c = map_of n (λ s. moved (to m s) c)

abbrev pub made : ℕ → (ℕ → ℕ → ℕ) → List ℕ → StateMap
made n moved w = map_of n (led moved w)

unfoldable pub rows : List ℕ → List StateMap
rows cells = map (λ r. record { to = slice_range cells (64 * r) (64 * r + 64) }) (range_with_len 0 (length cells / 64))
