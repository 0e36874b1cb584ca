-- What a roll that is filled and corrected stands for; private functions alone cite this. Assumes nothing.
--
--   Puts leg p s w r is         a strip w was filed into the slot s of a roll that stood for p, or there is no such slot
--   Corrects leg M p s w r is   the same, and r is whether the joined text is now in M
use Rattle.std.specs.Prelude.{◌≡◌, ℕ, ◌<◌, ◌≤◌, Bool, List, length, Some, Decides, Result, MatchResult, slice_set}
use Rattle.fault.specs.declared.Fault.{Fault}
use Rattle.fault.specs.declared.Refusal.TheVariants.{NoSuchSlot}
use Rattle.roll.specs.Plain.{Plain, whole}
use Rattle.roll.specs.Refusals.{fault}
use Rattle.roll.specs.Stands.{State, Stands}

abbrev pub Puts : {L : Type 0} → (List ℕ → L) → Plain → ℕ → List ℕ → Result (Unit {0}) Fault → State L → Type 0
Puts leg p s w r is = MatchResult r (λ _. (s < length p) × Stands leg is (slice_set p s (Some w))) (λ f. (length p ≤ s) × (f ≡ fault NoSuchSlot s))

abbrev pub Corrects : {L : Type 0} → (List ℕ → L) → (List ℕ → Type 0) → Plain → ℕ → List ℕ → Result Bool Fault → State L → Type 0
Corrects leg M p s w r is =
    MatchResult r
    (λ b. (s < length p) × Stands leg is (slice_set p s (Some w)) × Decides b (M (whole (slice_set p s (Some w)))))
    (λ f. (length p ≤ s) × (f ≡ fault NoSuchSlot s))
