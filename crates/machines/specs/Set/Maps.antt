-- Maps of set numbers: where each set is sent. Assumes nothing.
--
--   map_of f      64 entries, f s at s
--   to m s        where m sends s
--   identity      each number stays where it is
--   composed a b  a and then b
--   Numbers m     what every map of the type is: each entry is a number below 64
--   Associative   composing in either grouping gives one map, for all maps
use Rattle.std.specs.Prelude.{◌≡◌, ℕ, ◌<◌, List, map, slice_index}
use Rattle.std.specs.List.{range_with_len}
use Rattle.machines.specs.declared.set.map.SetMap.{SetMap}

unfoldable pub map_of : (ℕ → ℕ) → List ℕ
map_of f = map f (range_with_len 0 64)

abbrev pub to : SetMap → ℕ → ℕ
to m s = slice_index m.to s

abbrev pub identity : SetMap
identity = record { to = map_of (λ s. s) }

abbrev pub composed : SetMap → SetMap → SetMap
composed a b = record { to = map_of (λ s. to b (to a s)) }

abbrev pub Numbers : SetMap → Type 0
Numbers m = (s : ℕ) → to m s < 64

abbrev pub Associative : Type 0
Associative = (a b c : SetMap) → Numbers a → composed (composed a b) c ≡ composed a (composed b c)
