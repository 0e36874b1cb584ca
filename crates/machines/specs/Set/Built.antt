-- What it is for a set machine to be built over the tables of a place machine. Assumes nothing.
--
--   SetBuilt t n sets M leg   the machine that means the texts of M and has `leg` for its legs is that of the n sets that texts reach by t:
--     reaches      the set of the number that the text w leads to from set s is the set of states that w leads to from the members of set s
--     from_start   of set 0, so: the states that w leads to from state 0, in whatever expression t is the tables of
--     means        M holds of exactly the texts that this expression matches
--     lost         a text is lost exactly if the set that it leads to from set 0 is empty
--     joins        the leg of two texts joined is the legs composed, the first one first
--     neutral      composing with the empty text's leg changes no text's leg
--     associative  composing maps is associative, for all maps
use Rattle.std.specs.Prelude.{◌≡◌, ℕ, ◌<◌, ◌↔◌, List, [], ◌++◌, slice_index}
use Rattle.folding.specs.Sets.{Lost}
use Rattle.folding.specs.Texts.{Bytes}
use Rattle.notation.specs.Expressions.{Regex}
use Rattle.notation.specs.Meaning.{Matches}
use Rattle.relations.specs.Masks.{Has}
use Rattle.machines.specs.declared.place.tables.Tables.{Tables}
use Rattle.machines.specs.declared.set.map.SetMap.{SetMap}
use Rattle.machines.specs.Place.Runs.{run, Reaches}
use Rattle.machines.specs.Place.Tables.{TablesOf}
use Rattle.machines.specs.Set.Maps.{to, composed, Associative}
use Rattle.machines.specs.Soundness.{Sane}

pub record SetBuilt (t : Tables) (n : ℕ) (sets : List ℕ) (M : List ℕ → Type 0) (leg : List ℕ → SetMap) : Type 0 where
  pub reaches : (w : List ℕ) → Bytes w → (s : ℕ) → s < n → (to (leg w) s < n) × (slice_index sets (to (leg w) s) ≡ run t w (slice_index sets s))
  pub from_start : (e : Regex) → Sane e → TablesOf e t → (w : List ℕ) → Bytes w → (p : ℕ) → Has (slice_index sets (to (leg w) 0)) p ↔ Reaches e w 0 p
  pub means : (e : Regex) → Sane e → TablesOf e t → (w : List ℕ) → Bytes w → M w ↔ Matches e w
  pub lost : (w : List ℕ) → Bytes w → Lost M w ↔ (slice_index sets (to (leg w) 0) ≡ 0)
  pub joins : (v w : List ℕ) → Bytes v → Bytes w → leg (v ++ w) ≡ composed (leg v) (leg w)
  pub neutral : (w : List ℕ) → Bytes w → (composed (leg []) (leg w) ≡ leg w) × (composed (leg w) (leg []) ≡ leg w)
  pub associative : Associative
