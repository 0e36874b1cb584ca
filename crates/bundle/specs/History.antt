-- The calls that a report makes of its roll, as a history, the newest first. Assumes nothing.
--
--   entry l t c a     a call that was lent l legs and t tallies, and its answer
--   opening_of l t a  the history of one opening with 128 slots
--   filings l t ss h  the strips ss filed in their order, after the calls of h
--   questions ..      the three questions, answered as the report r has it, after the calls of h
--   FiledOne ..       a run that led to what was there goes on by the filing of one strip
--   FiledAll ..       and by those of all strips, or up to the first that was refused
--   Ran ..            a run of these calls led to the cells that are left
use Rattle.std.specs.Prelude.{◌≡◌, ℕ, List, [], ◌∷◌, ◌++◌, length, Ok, Err, Result}
use Rattle.fault.specs.declared.Fault.{Fault}
use Rattle.folding.specs.Tallies.{tally}
use Rattle.folding.specs.declared.tally.Tally.{Tally}
use Rattle.roll.specs.Calls.{Answer, done, tallied, judged, named, refused}
use Rattle.roll.specs.Refusals.{Call, opening, filing, verdict, totals, culprit}
use Rattle.roll.specs.Runs.{Event, event, Run}
use Rattle.roll.specs.Stands.{State, state}
use Rattle.roll.specs.Steps.{heard}
use Rattle.roll.specs.declared.roll.Roll.{Roll}
use Rattle.bundle.specs.Layout.{Piece}
use Rattle.bundle.specs.declared.report.Report.{Report}

abbrev pub entry : ℕ → ℕ → Call → Answer → Event
entry l t c a = record { call = c; legs = l; tallies = t; answer = a }

abbrev pub filing_of : Piece → Call
filing_of s = filing s.slot s.text

-- the answer of a filing that was granted is the strip's tally
abbrev pub filed_as : Piece → Result (Unit {0}) Fault → Answer
filed_as s r = heard (λ _. tallied (tally s.text)) r

abbrev pub opening_of : ℕ → ℕ → Answer → List Event
opening_of l t a = entry l t (opening 128) a ∷ []

abbrev pub filings : ℕ → ℕ → List Piece → List Event → List Event
filings l t [] h = h
filings l t (s ∷ ss) h = filings l t ss (entry l t (filing_of s) (tallied (tally s.text)) ∷ h)

abbrev pub questions : ℕ → ℕ → Report → List Event → List Event
questions l t r h = entry l t culprit (named r.culprit) ∷ (entry l t totals (tallied r.totals) ∷ (entry l t verdict (judged r.verdict) ∷ h))

-- the strips before the one that was refused, and that one
pub record Stopped (ss : List Piece) : Type 0 where
  pub before : List Piece
  pub refused : Piece
  pub rest : List Piece
  pub are : ss ≡ before ++ (refused ∷ rest)

abbrev pub stopped : {ss : List Piece} → ℕ → ℕ → Stopped ss → Fault → List Event → List Event
stopped l t at f h = entry l t (filing_of at.refused) (refused f) ∷ filings l t at.before h

abbrev pub Filings : {L : Type 0} → (List ℕ → L) → (List ℕ → Type 0) → ℕ → ℕ → List Piece → List Event → Result (Unit {0}) Fault → State L → Type 0
Filings leg M l t ss h (Ok x) is = Run leg M is (filings l t ss h)
Filings leg M l t ss h (Err f) is = (at : Stopped ss) × Run leg M is (stopped l t at f h)

abbrev pub FiledOne : {L : Type 0} → (List ℕ → L) → (List ℕ → Type 0) → State L → Piece → Result (Unit {0}) Fault → State L → Type 0
FiledOne leg M was s r is = (h : List Event) → Run leg M was h → Run leg M is (event was (filing_of s) (filed_as s r) ∷ h)

abbrev pub FiledAll : {L : Type 0} → (List ℕ → L) → (List ℕ → Type 0) → State L → List Piece → Result (Unit {0}) Fault → State L → Type 0
FiledAll leg M was ss r is = (h : List Event) → Run leg M was h → Filings leg M (length was.legs) (length was.tallies) ss h r is

-- `legs` and `tallies` were lent, and are left as `legs'` and `tallies'`
pub data Ran {L : Type 0} (leg : List ℕ → L) (M : List ℕ → Type 0) (legs : List L) (tallies : List Tally) (ss : List Piece) (legs' : List L) (tallies' : List Tally) : Result Report Fault → Type 0 where
  answered : {r : Report} (roll : Roll) → Run leg M (state roll legs' tallies') (questions (length legs) (length tallies) r (filings (length legs) (length tallies) ss (opening_of (length legs) (length tallies) done))) → Ran leg M legs tallies ss legs' tallies' (Ok r)
  unopened : {f : Fault} (roll : Roll) → Run leg M (state roll [] []) (opening_of (length legs) (length tallies) (refused f)) → legs' ≡ legs → tallies' ≡ tallies → Ran leg M legs tallies ss legs' tallies' (Err f)
  unfiled : {f : Fault} (roll : Roll) (at : Stopped ss) → Run leg M (state roll legs' tallies') (stopped (length legs) (length tallies) at f (opening_of (length legs) (length tallies) done)) → Ran leg M legs tallies ss legs' tallies' (Err f)
