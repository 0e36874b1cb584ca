-- What it is for a machine to be built from a pattern. Assumes nothing.
--
--   BuiltFor e t M leg   the machine that has the tables t, means the texts of M and has `leg` for its legs is the expression e's:
--                        t are e's tables, M holds of exactly the texts that e matches, and the leg of a text is, for each
--                        state, the set of states that the text leads to in e
--   Built p t M leg      p is read, and it is that of the expression that p is read as
use Rattle.std.specs.Prelude.{ℕ, ◌↔◌, List}
use Rattle.folding.specs.Texts.{Bytes}
use Rattle.notation.specs.Expressions.{Regex}
use Rattle.notation.specs.Grammar.{Written, deepest}
use Rattle.notation.specs.Meaning.{Matches}
use Rattle.notation.specs.Reading.{Readable}
use Rattle.relations.specs.declared.relation.Relation.{Relation}
use Rattle.machines.specs.declared.place.tables.Tables.{Tables}
use Rattle.machines.specs.Place.Tables.{TablesOf}
use Rattle.machines.specs.Place.Runs.{IsLeg}
use Rattle.machines.specs.Soundness.{Sane}

pub record BuiltFor (e : Regex) (t : Tables) (M : List ℕ → Type 0) (leg : List ℕ → Relation) : Type 0 where
  pub sane : Sane e
  pub tables : TablesOf e t
  pub means : (w : List ℕ) → Bytes w → M w ↔ Matches e w
  pub reaches : (w : List ℕ) → Bytes w → IsLeg e (leg w) w

pub record Built (p : List ℕ) (t : Tables) (M : List ℕ → Type 0) (leg : List ℕ → Relation) : Type 0 where
  pub read : Readable p
  pub is : (e : Regex) → Written deepest p e → BuiltFor e t M leg
