-- What holds of every place machine, every expression and every relation, whatever was built. Assumes nothing.
--
--   SpelledExactly   a text is meant exactly if some spelling has as many places as it has bytes, each taking its byte
--   EachPlaceLives   every place lies on some spelling
--   MeansExactly     the texts that a machine's tables mean are those that its expression matches
--   ReachesExactly   the leg of a text by a machine's tables is, for each state, the set of states that the text leads to
--   JoinsExactly     the leg of two texts joined is the legs composed
--   Neutral          composing with the empty text's leg changes no text's leg
--   PlaceLaws        all of these, and that composing relations is associative
use Rattle.std.specs.Prelude.{◌≡◌, ℕ, ◌≤◌, ◌↔◌, List, [], ◌++◌}
use Rattle.folding.specs.Texts.{Bytes}
use Rattle.notation.specs.Expressions.{Regex, Symbol, Takes}
use Rattle.notation.specs.Meaning.{Matches}
use Rattle.notation.specs.Places.{places}
use Rattle.machines.specs.declared.place.tables.Tables.{Tables}
use Rattle.machines.specs.Place.Tables.{TablesOf, Made, Meant}
use Rattle.relations.specs.Relations.{composed, Associative}
use Rattle.machines.specs.Place.Runs.{leg, IsLeg}
use Rattle.machines.specs.Soundness.{Sane}
use Rattle.machines.specs.Place.Spellings.{Spelling, Spelled, On}

abbrev pub SpelledExactly : Type 0
SpelledExactly = (e : Regex) (w : List ℕ) → Matches e w ↔ Spelled Takes e w

abbrev pub EachPlaceLives : Type 0
EachPlaceLives = (e : Regex) → Sane e → (p : ℕ) → 1 ≤ p → p ≤ places e → (s : Symbol) × On (Spelling e) (p, s)

abbrev pub MeansExactly : Type 0
MeansExactly = (e : Regex) (t : Tables) → Sane e → TablesOf e t → (w : List ℕ) → Bytes w → Meant t w ↔ Matches e w

abbrev pub ReachesExactly : Type 0
ReachesExactly = (e : Regex) (t : Tables) → Sane e → TablesOf e t → (w : List ℕ) → Bytes w → IsLeg e (leg t w) w

abbrev pub JoinsExactly : Type 0
JoinsExactly = (t : Tables) → Made t → (v w : List ℕ) → Bytes v → leg t (v ++ w) ≡ composed (leg t v) (leg t w)

abbrev pub Neutral : Type 0
Neutral = (t : Tables) → Made t → (w : List ℕ) → Bytes w → (composed (leg t []) (leg t w) ≡ leg t w) × (composed (leg t w) (leg t []) ≡ leg t w)

pub record PlaceLaws : Type 0 where
  pub spelled : SpelledExactly
  pub places : EachPlaceLives
  pub means : MeansExactly
  pub reaches : ReachesExactly
  pub joins : JoinsExactly
  pub neutral : Neutral
  pub associative : Associative
