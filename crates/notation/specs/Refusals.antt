-- The fault that a badly written pattern is answered with. Assumes nothing.
use Rattle.std.specs.Prelude.{◌≡◌, ℕ, ◌-◌, ◌≤◌, List, length}
use Rattle.fault.specs.declared.Fault.{Fault}
use Rattle.fault.specs.declared.Layer.TheVariants.{Pattern}
use Rattle.fault.specs.declared.Refusal.{Refusal}
use Rattle.fault.specs.declared.Refusal.TheVariants.{BadlyWritten}
use Rattle.notation.specs.Automaton.{Outcome, bad}

abbrev pub refused : Refusal → ℕ → Fault
refused why place = record { refusal = why; layer = Pattern; place = place }

-- the fault has the place in p where the automaton stops
pub record Stops (p : List ℕ) (f : Fault) (o : Outcome) : Type 0 where
  pub is : f ≡ refused BadlyWritten f.place
  pub within : f.place ≤ length p
  pub unread : o ≡ bad (length p - f.place)
