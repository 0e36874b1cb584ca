-- Runs of a roll: lists of calls, granted and refused, from the roll as made, with one machine never changed. Assumes nothing.
--
--   Fed s w          the strip s was begun and fed, and w is its granted feeds joined; a strip that a filing hands back counts as its text
--   Called ..        one call, by the relation that its contract names
--   Turned ..        a refused call on the roll, lent whatever it was: what the roll and its own tables are after it
--   Run s h          the calls of h, the newest first, have led to the state s
--   Met r h          the same of the roll alone, whatever cells, strips and machines, of whatever kinds, were lent to its calls
--
-- A granted call other than an opening is lent the cells that the last granted call left; an opening may bring other cells,
-- and a refused call may have been lent anything. A run goes on from what each call left.
use Rattle.std.specs.Prelude.{◌≡◌, ℕ, Bool, List, [], ◌∷◌, ◌++◌, length, None, Ok, Err, Option, Result}
use Rattle.fault.specs.declared.Fault.{Fault}
use Rattle.folding.specs.declared.tally.Tally.{Tally}
use Rattle.roll.specs.Calls as calls
use Rattle.roll.specs.Calls.{Answer, done, tallied, judged, named}
use Rattle.roll.specs.Refusals.{Call, opening, filing, withdrawal, verdict, totals, culprit}
use Rattle.roll.specs.Stands.{State}
use Rattle.roll.specs.Steps.{fault_of, heard, heard_back, OnRoll, Asks, Withdraws, Opens, Files, AsMade, Begins, Feeds}
use Rattle.roll.specs.declared.roll.Roll.{Roll}
use Rattle.roll.specs.declared.strip.Returned.{Returned}
use Rattle.roll.specs.declared.strip.Strip.{Strip}

pub data Fed {L : Type 0} (leg : List ℕ → L) (M : List ℕ → Type 0) : Strip L → List ℕ → Type 0 where
  begun : {s : Strip L} → Begins leg s → Fed leg M s []
  more : {was is : Strip L} {w t : List ℕ} (bytes : List ℕ) (n : ℕ) → Fed leg M was w → Feeds leg was bytes (Ok n) is → t ≡ w ++ bytes → Fed leg M is t
  full : {was is : Strip L} {w : List ℕ} (bytes : List ℕ) (f : Fault) → Fed leg M was w → Feeds leg was bytes (Err f) is → Fed leg M is w
  back : {s again : Strip L} {w : List ℕ} (was is : State L) (n : ℕ) (e : Returned L) → Fed leg M s w → Files leg M was n s (Err e) is → e.strip ≡ again → Fed leg M again w

pub data Called {L : Type 0} (leg : List ℕ → L) (M : List ℕ → Type 0) : State L → Call → Answer → State L → Type 0 where
  opens : {was is : State L} {n : ℕ} {a : Answer} (r : Result (Unit {0}) Fault) → Opens leg was n r is → a ≡ heard (λ _. done) r → Called leg M was (opening n) a is
  files : {was is : State L} {n : ℕ} {w : List ℕ} {a : Answer} (s : Strip L) (r : Result Tally (Returned L)) → Fed leg M s w → Files leg M was n s r is → a ≡ heard_back r → Called leg M was (filing n w) a is
  withdraws : {was is : State L} {n : ℕ} {a : Answer} (r : Result (Unit {0}) Fault) → Withdraws leg M was n r is → a ≡ heard (λ _. done) r → Called leg M was (withdrawal n) a is
  judges : {s : State L} {a : Answer} (r : Result Bool Fault) → Asks leg M s verdict (heard judged r) → a ≡ heard judged r → Called leg M s verdict a s
  adds : {s : State L} {a : Answer} (r : Result Tally Fault) → Asks leg M s totals (heard tallied r) → a ≡ heard tallied r → Called leg M s totals a s
  blames : {s : State L} {a : Answer} (r : Result (Option ℕ) Fault) → Asks leg M s culprit (heard named r) → a ≡ heard named r → Called leg M s culprit a s

-- a call by its arguments, the lent tables as their lengths, and its answer
pub record Event : Type 0 where
  pub call : Call
  pub legs : ℕ
  pub tallies : ℕ
  pub answer : Answer

abbrev pub event : {L : Type 0} → State L → Call → Answer → Event
event lent c a = record { call = c; legs = length lent.legs; tallies = length lent.tallies; answer = a }

-- what became of one of the roll's own tables: it was the one lent, and is as the call left it, or it was not there to be touched
pub data Passed {X : Type 0} (own lent left is : List X) : Type 0 where
  handed : lent ≡ own → is ≡ left → Passed own lent left is
  apart : is ≡ own → Passed own lent left is

pub record Turned {L : Type 0} (leg : List ℕ → L) (M : List ℕ → Type 0) (s lent : State L) (c : Call) (a : Answer) (is : State L) : Type 0 where
  pub on : lent.roll ≡ s.roll
  pub left : State L
  pub called : Called leg M lent c a left
  pub fault : Fault
  pub refused : a ≡ calls.refused fault
  pub roll : is.roll ≡ left.roll
  pub legs : Passed s.legs lent.legs left.legs is.legs
  pub tallies : Passed s.tallies lent.tallies left.tallies is.tallies

pub data Run {L : Type 0} (leg : List ℕ → L) (M : List ℕ → Type 0) : State L → List Event → Type 0 where
  made : {s : State L} → AsMade s.roll → s.legs ≡ [] → s.tallies ≡ [] → Run leg M s []
  granted : {s is : State L} {h : List Event} {c : Call} {a : Answer} → Run leg M s h → Called leg M s c a is → fault_of a ≡ None → Run leg M is (event s c a ∷ h)
  opened : {s is : State L} {h : List Event} {n : ℕ} {a : Answer} (lent : State L) → Run leg M s h → lent.roll ≡ s.roll → Called leg M lent (opening n) a is → fault_of a ≡ None → Run leg M is (event lent (opening n) a ∷ h)
  turned : {s is : State L} {h : List Event} {c : Call} {a : Answer} (lent : State L) → Run leg M s h → Turned leg M s lent c a is → Run leg M is (event lent c a ∷ h)

pub data Met : Roll → List Event → Type 0 where
  new : {r : Roll} → AsMade r → Met r []
  met : {was is : Roll} {h : List Event} {c : Call} {a : Answer} (l t : ℕ) → Met was h → OnRoll was c l t a is → Met is (record { call = c; legs = l; tallies = t; answer = a } ∷ h)
