-- What a part of a machine stands for. Assumes nothing.
--
--   StandsFor e o   the tables and the count represent e, or there are none, and e is sane and has more than 63 places
use Rattle.std.specs.Prelude.{Option, MatchOption}
use Rattle.notation.specs.Expressions.{Regex}
use Rattle.machines.specs.declared.place.fragment.Numbered.{Numbered}
use Rattle.machines.specs.Place.Fragments.{Represents, TooMany}

abbrev pub StandsFor : Regex → Option Numbered → Type 0
StandsFor e o = MatchOption o (TooMany e) (λ p. Represents e p.tables p.count)
