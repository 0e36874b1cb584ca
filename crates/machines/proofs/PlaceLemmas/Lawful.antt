-- The laws of place machines, and what a machine is built for. Assumes nothing.
use Rattle.std.proofs.Common.{[], sym, ap, ◌∙◌, append-nil, arith}
use Rattle.notation.specs.Expressions.{Regex, Takes, TakesSome}
use Rattle.machines.specs.declared.place.tables.Tables.{Tables}
use Rattle.machines.specs.Place.Built.{BuiltFor}
use Rattle.machines.specs.Place.Laws.{SpelledExactly, EachPlaceLives, MeansExactly, ReachesExactly, JoinsExactly, Neutral, PlaceLaws}
use Rattle.machines.specs.Place.Tables.{TablesOf, Meant}
use Rattle.machines.specs.Place.Runs.{leg}
use Rattle.machines.specs.Soundness.{Sane}
use Rattle.relations.proofs.Composing.{associative}
use Rattle.machines.specs.Place.Shown.Machine.{meant_matches, is_leg, made_narrow}
use Rattle.machines.specs.Place.Shown.Running.{leg_joined}
use Rattle.machines.specs.Place.Shown.Spelling.{meant_spelled, spelled_meant}
use Rattle.machines.specs.Place.Shown.Spread.{spread_linear}

spelled_exactly : SpelledExactly
spelled_exactly e w = (meant_spelled Takes e w, spelled_meant Takes e w)

each_place_lives : EachPlaceLives
each_place_lives e sane p low high = (spread_linear TakesSome e sane 1).live p low (omega arith)

pub means_exactly : MeansExactly
means_exactly e t sane of = meant_matches t ∣ (e, sane, of) ∣₁ e sane of

pub reaches_exactly : ReachesExactly
reaches_exactly e t sane of = is_leg e sane t of

joins_exactly : JoinsExactly
joins_exactly t made v w bytes = leg_joined t v w (made_narrow t made v bytes)

neutral : Neutral
neutral t made w bytes = (sym (joins_exactly t made [] w tt), sym (joins_exactly t made w [] bytes) ∙ ap (leg t) (append-nil w))

pub place_laws : PlaceLaws
place_laws = record {
  spelled = spelled_exactly;
  places = each_place_lives;
  means = means_exactly;
  reaches = reaches_exactly;
  joins = joins_exactly;
  neutral = neutral;
  associative = associative;
}

pub built_for : (e : Regex) (t : Tables) → Sane e → TablesOf e t → BuiltFor e t (Meant t) (leg t)
built_for e t sane of = record { sane = sane; tables = of; means = means_exactly e t sane of; reaches = reaches_exactly e t sane of }
