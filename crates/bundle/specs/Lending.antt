-- What filing the strips of a bundle comes to, in terms of a roll and of what is lent with its calls. Assumes nothing.
--
--   FiledOneWith, FiledAllWith   a run goes on by the filing of one strip, or of all (History.antt), on this roll, with these cells
--   ReportedWith                 the report, or the fault, that the plain roll comes to (Outcome.antt)
--   RanWith                      a run of these calls led to the cells that are left (History.antt)
--
-- Each is meant under the machine that is lent: of each machine of the kind X, `leg` is the leg function and M the set.
use Rattle.std.specs.Prelude.{ℕ, List, length, Result}
use Rattle.fault.specs.declared.Fault.{Fault}
use Rattle.roll.specs.Lending.{with}
use Rattle.roll.specs.declared.lent.LentMut.{LentMut}
use Rattle.roll.specs.declared.roll.Roll.{Roll}
use Rattle.bundle.specs.History.{FiledOne, FiledAll, Ran}
use Rattle.bundle.specs.Layout.{Piece}
use Rattle.bundle.specs.Outcome.{begun, Reported}
use Rattle.bundle.specs.declared.report.Report.{Report}

abbrev pub FiledOneWith : {X L : Type 0} → (X → List ℕ → L) → (X → List ℕ → Type 0) → Roll → LentMut X L → Piece → Result (Unit {0}) Fault → Roll → LentMut X L → Type 0
FiledOneWith leg M was lent s r is lent' = FiledOne (leg lent.machine.now) (M lent.machine.now) (with was lent) s r (with is lent')

abbrev pub FiledAllWith : {X L : Type 0} → (X → List ℕ → L) → (X → List ℕ → Type 0) → Roll → LentMut X L → List Piece → Result (Unit {0}) Fault → Roll → LentMut X L → Type 0
FiledAllWith leg M was lent ss r is lent' = FiledAll (leg lent.machine.now) (M lent.machine.now) (with was lent) ss r (with is lent')

abbrev pub ReportedWith : {X L : Type 0} → (X → List ℕ → Type 0) → LentMut X L → List Piece → Result Report Fault → Type 0
ReportedWith M lent ss r = Reported (M lent.machine.now) (begun (length lent.legs.now) (length lent.tallies.now) ss) r

abbrev pub RanWith : {X L : Type 0} → (X → List ℕ → L) → (X → List ℕ → Type 0) → LentMut X L → List Piece → LentMut X L → Result Report Fault → Type 0
RanWith leg M lent ss lent' r = Ran (leg lent.machine.now) (M lent.machine.now) lent.legs.now lent.tallies.now ss lent'.legs.now lent'.tallies.now r
