-- The texts that have at most n line ends, and what a machine keeps of a text to tell. Assumes nothing.
--
--   Few n w    w has at most n line ends
--   kept n w   the line ends of w, of which no more than n + 1 are counted
use Rattle.std.specs.Prelude.{ℕ, ◌+◌, ◌≤◌, min, List}
use Rattle.folding.specs.Tallies.{line_ends}

abbrev pub Few : ℕ → List ℕ → Type 0
Few n w = line_ends w ≤ n

abbrev pub kept : ℕ → List ℕ → ℕ
kept n w = min (line_ends w) (n + 1)
