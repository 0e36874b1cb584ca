-- What each call of a roll and of its strips does: the relations that the calls' contracts name. Assumes nothing.
--
--   OnRoll    with no premise, of the roll itself: which fault is answered, if any, that a refused call leaves it as it was, and
--             which slots are held after a granted one; of what is lent it names the two lengths alone
--   Always    the same, and that a refused call leaves the lent tables as they were
--   Touches   with no premise but the grant: the slot's own cells, and that nothing but these and the cells above them changed
--   Keeps     whatever plain roll the state stood for, a granted call answers as that one does, and the state stands for what that one keeps
--   Does      Always and Keeps
--   Asks      the same of a question, which leaves the state as it is
--   Withdraws, Files   these and Touches; filing for whatever text the strip holds, and a refusal hands the strip back
--   Opens     Always, and that the state stands for empty slots, whatever the roll and the cells held
--   AsMade    what making a roll answers
--   Begins, Feeds   a strip of no bytes; more bytes, or none where there would be too many
--   FedAtOnce       a strip that was begun and fed this text
--   StripOf         such a strip, or the fault of a text that is too long for one
--
-- Where the state stands for no plain roll under this machine, or the strip holds no text under it, `Keeps` says nothing. Open is then
-- only what a question answers, and what stands in the cells above a slot that was filed or emptied.
use Rattle.std.specs.Prelude.{◌≡◌, ℕ, ◌+◌, ◌<◌, ◌≤◌, List, [], ◌++◌, length, replicate, IfErr, Some, None, Ok, Err, Option, Result, MatchResult, slice_index_or}
use Rattle.fault.specs.declared.Fault.{Fault}
use Rattle.fault.specs.declared.Refusal.TheVariants.{StripTooLong}
use Rattle.folding.specs.Keeping.{half, Spares}
use Rattle.folding.specs.Tallies.{tally}
use Rattle.folding.specs.Texts.{Bytes}
use Rattle.folding.specs.declared.tally.Tally.{Tally}
use Rattle.roll.specs.Calls.{Answer, done, tallied, judged, named, refused, after, Gives}
use Rattle.roll.specs.Plain.{Plain}
use Rattle.roll.specs.Refusals.{Call, opening, filing, withdrawal, fault, refusal, marked}
use Rattle.roll.specs.Sizes.{longest}
use Rattle.roll.specs.Stands.{State, slots, Stands, Counted, Holds}
use Rattle.roll.specs.declared.roll.Roll.{Roll}
use Rattle.roll.specs.declared.strip.Returned.{Returned}
use Rattle.roll.specs.declared.strip.Strip.{Strip}

-- the fault of a refused call
abbrev pub fault_of : Answer → Option Fault
fault_of done = None
fault_of (tallied t) = None
fault_of (judged b) = None
fault_of (named c) = None
fault_of (refused f) = Some f

-- what a call answers, as data
abbrev pub heard : {X : Type 0} → (X → Answer) → Result X Fault → Answer
heard say (Ok x) = say x
heard say (Err f) = refused f

abbrev pub heard_back : {L : Type 0} → Result Tally (Returned L) → Answer
heard_back (Ok t) = tallied t
heard_back (Err e) = refused e.fault

-- the fault of a call on this state
abbrev pub refusal_at : {L : Type 0} → State L → Call → Option Fault
refusal_at s c = refusal (slots s.roll) c (length s.legs) (length s.tallies)

pub record OnRoll (was : Roll) (c : Call) (l t : ℕ) (a : Answer) (is : Roll) : Type 0 where
  pub which : refusal (slots was) c l t ≡ fault_of a
  pub same : (f : Fault) → a ≡ refused f → is ≡ was
  pub marks : refusal (slots was) c l t ≡ None → slots is ≡ marked (slots was) c

pub record Always {L : Type 0} (was : State L) (c : Call) (a : Answer) (is : State L) : Type 0 where
  pub roll : OnRoll was.roll c (length was.legs) (length was.tallies) a is.roll
  pub tables : (f : Fault) → a ≡ refused f → (is.legs ≡ was.legs) × (is.tallies ≡ was.tallies)

pub record Touches {L : Type 0} (was : State L) (s : ℕ) (leg : L) (count : Tally) (is : State L) : Type 0 where
  pub legs : Spares was.legs s is.legs
  pub tallies : Spares was.tallies s is.tallies
  pub own_leg : (d : L) → slice_index_or is.legs (half was.legs + s) d ≡ leg
  pub own_tally : (d : Tally) → slice_index_or is.tallies (half was.tallies + s) d ≡ count

abbrev pub Keeps : {L : Type 0} → (List ℕ → L) → (List ℕ → Type 0) → State L → Call → Answer → State L → Type 0
Keeps leg M was c a is = (p : Plain) → Stands leg was p → refusal_at was c ≡ None → Gives M p c a × Stands leg is (after p c)

pub record Does {L : Type 0} (leg : List ℕ → L) (M : List ℕ → Type 0) (was : State L) (c : Call) (a : Answer) (is : State L) : Type 0 where
  pub always : Always was c a is
  pub keeps : Keeps leg M was c a is

abbrev pub Asks : {L : Type 0} → (List ℕ → L) → (List ℕ → Type 0) → State L → Call → Answer → Type 0
Asks leg M s q a = Does leg M s q a s

pub record Withdraws {L : Type 0} (leg : List ℕ → L) (M : List ℕ → Type 0) (was : State L) (s : ℕ) (r : Result (Unit {0}) Fault) (is : State L) : Type 0 where
  pub does : Does leg M was (withdrawal s) (heard (λ _. done) r) is
  pub touches : refusal_at was (withdrawal s) ≡ None → Touches was s (leg []) (tally []) is

pub record Opens {L : Type 0} (leg : List ℕ → L) (was : State L) (n : ℕ) (r : Result (Unit {0}) Fault) (is : State L) : Type 0 where
  pub always : Always was (opening n) (heard (λ _. done) r) is
  pub keeps : refusal_at was (opening n) ≡ None → Stands leg is (replicate n None)

-- whether it is granted does not depend on the text
pub record Files {L : Type 0} (leg : List ℕ → L) (M : List ℕ → Type 0) (was : State L) (s : ℕ) (strip : Strip L) (r : Result Tally (Returned L)) (is : State L) : Type 0 where
  pub always : Always was (filing s []) (heard_back r) is
  pub back : IfErr r (λ e. e.strip ≡ strip)
  pub answer : refusal_at was (filing s []) ≡ None → r ≡ Ok strip.tally
  pub touches : refusal_at was (filing s []) ≡ None → Touches was s strip.leg strip.tally is
  pub keeps : (w : List ℕ) → Holds leg strip w → Keeps leg M was (filing s w) (heard_back r) is

-- a roll with no slots
abbrev pub AsMade : Roll → Type 0
AsMade r = r.slots.items ≡ []

abbrev pub Begins : {L : Type 0} → (List ℕ → L) → Strip L → Type 0
Begins leg s = Holds leg s []

-- what is fed is what a slice holds, and so a text
pub record Feeds {L : Type 0} (leg : List ℕ → L) (was : Strip L) (bytes : List ℕ) (r : Result ℕ Fault) (is : Strip L) : Type 0 where
  pub text : Bytes bytes
  pub cases : MatchResult r (λ n. (n ≡ was.fed + length bytes) × (n ≤ longest) × (is.fed ≡ n)) (λ f. (longest < was.fed + length bytes) × (f ≡ fault StripTooLong was.fed) × (is ≡ was))
  pub counts : (w : List ℕ) → Counted was w → MatchResult r (λ n. Counted is (w ++ bytes)) (λ f. Counted is w)
  pub holds : (w : List ℕ) → Holds leg was w → MatchResult r (λ n. Holds leg is (w ++ bytes)) (λ f. Holds leg is w)

abbrev pub FedAtOnce : {L : Type 0} → (List ℕ → L) → List ℕ → Strip L → Type 0
FedAtOnce {L} leg text is = (was : Strip L) × Begins leg was × Feeds leg was text (Ok (length text)) is

abbrev pub StripOf : {L : Type 0} → (List ℕ → L) → List ℕ → Result (Strip L) Fault → Type 0
StripOf leg text r = MatchResult r (FedAtOnce leg text) (λ f. (longest < length text) × (f ≡ fault StripTooLong 0))
