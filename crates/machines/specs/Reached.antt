-- How many sets and starts a pattern's texts come to, by its expression alone. Assumes nothing.
--
--   SameSet e v w      the texts v and w lead from state 0 to the same states: to one set
--   SameStart e v w    whatever text went before, v and w lead on to one set: they make one map of sets
--   MoreSets n e       more than n sets are reached: there are n + 1 texts of which no two lead to one set
--   MoreStarts n e     more than n starts are reached: there are n + 1 texts of which no two make one map of sets
use Rattle.std.specs.Prelude.{ℕ, ◌↔◌, List, ◌++◌}
use Rattle.folding.specs.Texts.{Bytes}
use Rattle.notation.specs.Expressions.{Regex}
use Rattle.numbering.specs.Reaching.{Unlike}
use Rattle.machines.specs.Place.Runs.{Reaches}

abbrev pub SameSet : Regex → List ℕ → List ℕ → Type 0
SameSet e v w = (p : ℕ) → Reaches e v 0 p ↔ Reaches e w 0 p

abbrev pub SameStart : Regex → List ℕ → List ℕ → Type 0
SameStart e v w = (u : List ℕ) → Bytes u → SameSet e (u ++ v) (u ++ w)

abbrev pub MoreSets : ℕ → Regex → Type 0
MoreSets n e = Unlike n (SameSet e)

abbrev pub MoreStarts : ℕ → Regex → Type 0
MoreStarts n e = Unlike n (SameStart e)
