-- How many maps of sets texts make, by the moves of a set machine and by the expression alone. Assumes nothing.
--
--   StartsReached t n moves   of the n sets of the place machine t, which have these moves: more than r maps of them are made by texts exactly if
--                             more than r starts are reached in the expression
use Rattle.std.specs.Prelude.{ℕ, ◌↔◌, List}
use Rattle.notation.specs.Expressions.{Regex}
use Rattle.numbering.specs.Reaching.{MoreThan}
use Rattle.starts.specs.Maps.{identity, then_byte}
use Rattle.machines.specs.declared.place.tables.Tables.{Tables}
use Rattle.machines.specs.Place.Tables.{TablesOf}
use Rattle.machines.specs.Reached.{MoreStarts}
use Rattle.machines.specs.Set.Runs.{moved_by}
use Rattle.machines.specs.Soundness.{Sane}

abbrev pub StartsReached : Tables → ℕ → List ℕ → Type 0
StartsReached t n moves =
    (e : Regex) → Sane e → TablesOf e t → (r : ℕ) → MoreThan r (identity n) (then_byte n (moved_by moves)) ↔ MoreStarts r e
