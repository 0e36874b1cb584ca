-- What a fragment stands for: a part of a pattern, with the tables of that part alone. Assumes nothing.
--
--   Represents e t n   n is the number of e's places, or 64 if there are more than 63; up to 63, t is e's machine
--   Part t n           t and n represent some expression
--   TooMany e          e is sane, and has more than 63 places
use Rattle.std.specs.Prelude.{◌≡◌, ℕ, ◌<◌, ◌≤◌, min}
use Rattle.notation.specs.Expressions.{Regex}
use Rattle.notation.specs.Places.{places}
use Rattle.machines.specs.declared.place.tables.Tables.{Tables}
use Rattle.machines.specs.Place.Tables.{TablesOf}
use Rattle.machines.specs.Soundness.{Sane}

pub record Represents (e : Regex) (t : Tables) (n : ℕ) : Type 0 where
  pub sane : Sane e
  pub count : n ≡ min (places e) 64
  pub tables : places e ≤ 63 → TablesOf e t

abbrev pub Part : Tables → ℕ → Type 0
Part t n = ∥ ((e : Regex) × Represents e t n) ∥₁

abbrev pub TooMany : Regex → Type 0
TooMany e = Sane e × (63 < places e)
