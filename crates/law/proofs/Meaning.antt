-- A place machine of a pattern means what the pattern means. Assumes nothing.
use Rattle.std.specs.Prelude.{ℕ, List}
use Rattle.machines.specs.Place.Shown.Machine.{meant_matches}
use Rattle.machines.specs.Place.Tables.{Made, Meant}
use Rattle.machines.specs.declared.place.tables.Tables.{Tables}
use Rattle.law.specs.Whole.{MeansPattern, OfPattern}

pub meant : (p : List ℕ) (t : Tables) → Made t → OfPattern p t → MeansPattern p (Meant t)
meant p t made of e read = let is = of.1 e read.written in meant_matches t made e is.0 is.1
