-- What a text does to the states of a place machine. Assumes nothing.
--
--   Leads e q c p     from state q the byte c leads to p: p comes after q, or first if q is 0, and takes c
--   Reaches e w q p   from state q the text w leads to p
--   stepped t set c   the states to which c leads from the members of the set, by the tables
--   run t w set       the states to which w leads from the members of the set, by the tables
--   leg t w           for each state the set of states that w leads to, by the tables
--   IsLeg e l w       l has for each state exactly the states that w leads to
use Rattle.std.specs.Prelude.{◌≡◌, ℕ, zero, suc, ◌^◌, ◌<◌, ◌↔◌, List, [], ◌∷◌, bit_and, slice_index}
use Rattle.notation.specs.Expressions.{Regex}
use Rattle.relations.specs.declared.relation.Relation.{Relation}
use Rattle.machines.specs.declared.place.tables.Tables.{Tables}
use Rattle.relations.specs.Masks.{Has, image}
use Rattle.machines.specs.Place.Tables.{Starts, Comes, PlaceTakes}
use Rattle.relations.specs.Relations.{rows_of, row}

abbrev pub Leads : Regex → ℕ → ℕ → ℕ → Type 0
Leads e zero c p = Starts e p × PlaceTakes e c p
Leads e (suc q) c p = Comes e (suc q) p × PlaceTakes e c p

abbrev pub Reaches : Regex → List ℕ → ℕ → ℕ → Type 0
Reaches e [] q p = q ≡ p
Reaches e (c ∷ w) q p = (r : ℕ) × Leads e q c r × Reaches e w r p

abbrev pub stepped : Tables → ℕ → ℕ → ℕ
stepped t set c = bit_and (image t.follow set) (slice_index t.takes c)

unfoldable pub run : Tables → List ℕ → ℕ → ℕ
run t [] set = set
run t (c ∷ w) set = run t w (stepped t set c)

abbrev pub leg : Tables → List ℕ → Relation
leg t w = record { rows = rows_of (λ q. run t w (2 ^ q)) }

abbrev pub IsLeg : Regex → Relation → List ℕ → Type 0
IsLeg e l w = (q p : ℕ) → q < 64 → Has (row l q) p ↔ Reaches e w q p
