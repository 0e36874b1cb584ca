-- The tables of the place machine of an expression, by the expression's spellings. Assumes nothing.
--
--   Starts e p         place p comes first in some spelling
--   Comes e q p        place p stands directly after place q in some spelling
--   Closes e p         place p ends some spelling
--   PlaceTakes e c p   place p stands in some spelling and takes the byte c
--   TablesOf e t       t is e's machine: state 0 and a state for each place, row q of `follow` the places that come after q
--                      (row 0 those that start), row c of `takes` the places that take c, `accepts` the states that accept
--   Made t             t is the machine of some expression that can be read from a pattern
--   Meant t w          w is matched by the expression whose machine t is
use Rattle.std.specs.Prelude.{ℕ, ◌<◌, ◌≤◌, ◌↔◌, List, [], slice_index}
use Rattle.notation.specs.Expressions.{Regex, Symbol, Takes}
use Rattle.notation.specs.Meaning.{Matches}
use Rattle.notation.specs.Places.{places}
use Rattle.machines.specs.declared.place.tables.Tables.{Tables}
use Rattle.relations.specs.Masks.{Has}
use Rattle.machines.specs.Soundness.{Sane}
use Rattle.machines.specs.Place.Spellings.{Spelling, First, Ends, Follows, On}

abbrev pub Starts : Regex → ℕ → Type 0
Starts e p = (s : Symbol) × First (Spelling e) (p, s)

abbrev pub Comes : Regex → ℕ → ℕ → Type 0
Comes e q p = (s : Symbol) × (t : Symbol) × Follows (Spelling e) (q, s) (p, t)

abbrev pub Closes : Regex → ℕ → Type 0
Closes e p = (s : Symbol) × Ends (Spelling e) (p, s)

abbrev pub PlaceTakes : Regex → ℕ → ℕ → Type 0
PlaceTakes e c p = (s : Symbol) × On (Spelling e) (p, s) × Takes s c

pub record TablesOf (e : Regex) (t : Tables) : Type 0 where
  pub few : places e ≤ 63
  pub first : (p : ℕ) → Has (slice_index t.follow 0) p ↔ Starts e p
  pub follow : (q p : ℕ) → 1 ≤ q → q < 64 → Has (slice_index t.follow q) p ↔ Comes e q p
  pub takes : (c p : ℕ) → c < 256 → Has (slice_index t.takes c) p ↔ PlaceTakes e c p
  pub ends : (p : ℕ) → 1 ≤ p → Has t.accepts p ↔ Closes e p
  pub initial : Has t.accepts 0 ↔ Matches e []

abbrev pub Made : Tables → Type 0
Made t = ∥ ((e : Regex) × Sane e × TablesOf e t) ∥₁

abbrev pub Meant : Tables → List ℕ → Type 0
Meant t w = (e : Regex) → Sane e → TablesOf e t → Matches e w
