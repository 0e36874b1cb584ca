-- The whole law: what every machine of a pattern means; and a pattern, a machine of it, and the rolls under that machine beside those under another. Assumes nothing.
--
--   MeansPattern p M   M is exactly the set of texts that the pattern p means, by the expression that p is read as
--   OfPattern p t      p is read, and t are the place machine's tables of the expression that it is read as
--   Every under P S R  each machine that is built of a pattern means what the pattern means, be it a place machine, a set machine or a start
--                      machine under which a set machine stands; their sets are given by P, S and R
--   Whole p ..         of a machine with the first set, that it is one of the pattern p; and of its rolls, beside those under a machine
--                      with the second set
use Rattle.std.specs.Prelude.{List, ◌↔◌, ℕ}
use Rattle.folding.specs.Texts.{Bytes}
use Rattle.machines.specs.declared.place.PlaceMachine.{PlaceMachine}
use Rattle.machines.specs.declared.place.tables.Tables.{Tables}
use Rattle.machines.specs.declared.set.SetMachine.{SetMachine}
use Rattle.machines.specs.Place.Tables.{TablesOf}
use Rattle.machines.specs.Soundness.{Sane}
use Rattle.notation.specs.Expressions.{Regex}
use Rattle.notation.specs.Grammar.{Written, deepest}
use Rattle.notation.specs.Meaning.{Matches}
use Rattle.notation.specs.Reading.{ReadAs, Readable}
use Rattle.roll.specs.Law.{Alike, Law}

abbrev pub MeansPattern : List ℕ → (List ℕ → Type 0) → Type 0
MeansPattern p M = (e : Regex) → ReadAs p e → (w : List ℕ) → Bytes w → M w ↔ Matches e w

abbrev pub OfPattern : List ℕ → Tables → Type 0
OfPattern p t = Readable p × ((e : Regex) → Written deepest p e → Sane e × TablesOf e t)

pub record Every {Start : Type 0} (under : Start → SetMachine) (P : PlaceMachine → List ℕ → Type 0) (S : SetMachine → List ℕ → Type 0) (R : Start → List ℕ → Type 0) : Type 0 where
  pub place : (p : List ℕ) (m : PlaceMachine) → OfPattern p m.tables → MeansPattern p (P m)
  pub set : (p : List ℕ) (m : SetMachine) → OfPattern p m.place.tables → MeansPattern p (S m)
  pub start : (p : List ℕ) (m : Start) → OfPattern p (under m).place.tables → MeansPattern p (R m)

pub record Whole {L K : Type 0} (p : List ℕ) (leg : List ℕ → L) (M : List ℕ → Type 0) (leg' : List ℕ → K) (M' : List ℕ → Type 0) : Type 0 where
  -- the pattern is read, and the machine's set is exactly the texts that it means
  pub read : Readable p
  pub means : MeansPattern p M
  -- what holds of every run of a roll under the machine, and of any two runs under the two
  pub law : Law leg M leg' M'
  -- where the other machine is one of the same pattern, two rolls under the two are alike
  pub one_pattern : MeansPattern p M' → Alike leg M leg' M'
