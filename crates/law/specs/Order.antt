-- In which order a pattern's faults come: that of its reading, that of its sets, that of its starts, and then what is said of the expression that it is read as. Assumes nothing.
--
--   AfterReading p A r    r is the fault of the pattern p, or what A says under the expression that p is read as
--   AfterSets A e r       r is the fault of the sets of e, of which there are more than 64, or what A says
--   AfterStarts n A e r   r is the fault of the starts of e, of which there are more than the n rows, or what A says
use Rattle.std.specs.Prelude.{◌≡◌, ℕ, ◌⊎◌, List, Err, Result}
use Rattle.fault.specs.declared.Fault.{Fault}
use Rattle.fault.specs.declared.Refusal.TheVariants.{TooManySets, TooManyStarts}
use Rattle.machines.specs.Reached.{MoreSets, MoreStarts}
use Rattle.notation.specs.Expressions.{Regex}
use Rattle.notation.specs.Reading.{ReadAs, Refused}
use Rattle.starts.specs.Building.{unbuilt}

abbrev pub AfterReading : {X : Type 0} → List ℕ → (Regex → Result X Fault → Type 0) → Result X Fault → Type 0
AfterReading p A r = ((f : Fault) × Refused p f × (r ≡ Err f)) ⊎ ((e : Regex) × ReadAs p e × A e r)

abbrev pub AfterSets : {X : Type 0} → (Regex → Result X Fault → Type 0) → Regex → Result X Fault → Type 0
AfterSets A e r = (MoreSets 64 e × (r ≡ Err (unbuilt TooManySets 0))) ⊎ ((MoreSets 64 e → ⊥) × A e r)

abbrev pub AfterStarts : {X : Type 0} → ℕ → (Regex → Result X Fault → Type 0) → Regex → Result X Fault → Type 0
AfterStarts n A e r = (MoreStarts n e × (r ≡ Err (unbuilt TooManyStarts n))) ⊎ ((MoreStarts n e → ⊥) × A e r)
