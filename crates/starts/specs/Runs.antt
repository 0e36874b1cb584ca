-- Where a text leads by the moves of a start machine, and what that machine is. Assumes nothing.
--
--   leg moves w                  the number of the start that the text w leads to from start 0
--   StartBuilt k moved n maps M N leg   the machine that means the texts of M and has `leg` for its legs, over an automaton that means those of N:
--     within   the leg of a text is one of the n starts
--     makes    the map of the start that the text w leads to is the map that w makes of the automaton's states
--     means    M holds of exactly the texts that the automaton means
--     joins    the map of the leg of two texts joined is the maps of their legs composed, the first one first
--     associative   joining the legs of texts in either grouping gives one leg
--     one      texts that make one map have one leg
use Rattle.std.specs.Prelude.{◌≡◌, ℕ, ◌+◌, ◌*◌, ◌<◌, ◌↔◌, List, ◌++◌, slice_index}
use Rattle.folding.specs.Legs.{Associative}
use Rattle.folding.specs.Texts.{Bytes}
use Rattle.starts.specs.Automata.{led}
use Rattle.starts.specs.Maps.{composed, made}
use Rattle.starts.specs.Starts.{row}

abbrev pub move_of : List ℕ → ℕ → ℕ → ℕ
move_of moves r c = slice_index moves (256 * r + c)

abbrev pub leg : List ℕ → List ℕ → ℕ
leg moves w = led (move_of moves) w 0

pub record StartBuilt (k : ℕ) (moved : ℕ → ℕ → ℕ) (n : ℕ) (maps : List ℕ) (M N : List ℕ → Type 0) (leg : List ℕ → ℕ) : Type 0 where
  pub within : (w : List ℕ) → Bytes w → leg w < n
  pub makes : (w : List ℕ) → Bytes w → row maps (leg w) ≡ made k moved w
  pub means : (w : List ℕ) → Bytes w → M w ↔ N w
  pub joins : (v w : List ℕ) → Bytes v → Bytes w → row maps (leg (v ++ w)) ≡ composed k (row maps (leg v)) (row maps (leg w))
  pub associative : Associative leg
  pub one : (v w : List ℕ) → Bytes v → Bytes w → made k moved v ≡ made k moved w → leg v ≡ leg w
