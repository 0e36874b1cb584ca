-- Where a text leads by the moves of a set machine. Assumes nothing.
--
--   moved_by moves s c          the entry of set s at the byte c, as the number of a set
--   transformation n moves w    the map of numbers that w makes, where there are n sets: a number that no set has stays where it is
use Rattle.std.specs.Prelude.{ℕ, ◌%◌, cond, List, nat_lt}
use Rattle.starts.specs.Automata.{led}
use Rattle.starts.specs.Runs.{move_of}
use Rattle.machines.specs.declared.set.map.SetMap.{SetMap}
use Rattle.machines.specs.Set.Maps.{map_of}

abbrev pub transformation : ℕ → List ℕ → List ℕ → SetMap
transformation n moves w = record { to = map_of (λ s. cond (nat_lt s n) (led (move_of moves) w s) s) }

abbrev pub moved_by : List ℕ → ℕ → ℕ → ℕ
moved_by moves s c = move_of moves s c % 64
