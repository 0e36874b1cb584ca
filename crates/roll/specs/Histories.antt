-- What the calls of a list leave, and how each of them is due to be answered. Assumes nothing.
--
--   plain h       the plain roll after the calls of h, and held h which slots are held, by the calls alone
--   Right M h     every answer and refusal of h is the plain roll's, where M is the machine's set
--   Due h         every refusal of h is the one that the slots held and the lengths of the lent tables say, and there is no other
--   asked e       a call by its arguments, the lent tables as their lengths
use Rattle.std.specs.Prelude.{◌≡◌, ℕ, List, [], ◌∷◌, Some, None, Option}
use Rattle.fault.specs.declared.Fault.{Fault}
use Rattle.roll.specs.Calls.{after, Answers}
use Rattle.roll.specs.Plain.{Plain, marks}
use Rattle.roll.specs.Refusals.{Call, refusal, marked}
use Rattle.roll.specs.Runs.{Event}
use Rattle.roll.specs.Steps.{fault_of}
use Rattle.roll.specs.declared.slot.Slot.{Slot}

-- a refused call leaves what there was
abbrev pub keep : {X : Type 0} → Option Fault → X → X → X
keep None was is = is
keep (Some f) was is = was

abbrev pub plain : List Event → Plain
plain [] = []
plain (e ∷ h) = keep (refusal (marks (plain h)) e.call e.legs e.tallies) (plain h) (after (plain h) e.call)

abbrev pub Right : (List ℕ → Type 0) → List Event → Type 0
Right M [] = Unit {0}
Right M (e ∷ h) = Right M h × Answers M (plain h) e.call e.legs e.tallies e.answer

abbrev pub held : List Event → List Slot
held [] = []
held (e ∷ h) = keep (refusal (held h) e.call e.legs e.tallies) (held h) (marked (held h) e.call)

abbrev pub Due : List Event → Type 0
Due [] = Unit {0}
Due (e ∷ h) = Due h × (refusal (held h) e.call e.legs e.tallies ≡ fault_of e.answer)

abbrev pub asked : Event → Call × (ℕ × ℕ)
asked e = (e.call, (e.legs, e.tallies))
