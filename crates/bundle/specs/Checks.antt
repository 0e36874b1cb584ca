-- What the check of a bundle answers, in terms of its bytes, the notation, the meaning, what its texts reach and the plain roll. Assumes nothing.
--
--   rows             how many starts a check has room for
--   Started ss e r   r is what the strips ss come to under a pattern that is read as e, once its sets are built: the fault of its starts, or their
--                    report or fault
--   Checked p ss r   the same under the pattern p, whose own fault comes first, and then that of its sets
--   Outcome input r  r is what an input comes to: the fault of its size, or what its strips come to under its pattern
--   said r           the text that is printed
--   Prints input t   t is that text of what an input comes to
use Rattle.std.specs.Prelude.{◌≡◌, ℕ, ◌⊎◌, List, Ok, Err, Result}
use Rattle.fault.specs.Lines.{line}
use Rattle.fault.specs.declared.Fault.{Fault}
use Rattle.law.specs.Order.{AfterReading, AfterSets, AfterStarts}
use Rattle.notation.specs.Expressions.{Regex}
use Rattle.notation.specs.Meaning.{Matches}
use Rattle.bundle.specs.Layout.{Piece, written}
use Rattle.bundle.specs.Lines.{lines}
use Rattle.bundle.specs.Outcome.{opened, filed, Reported}
use Rattle.bundle.specs.Sizes.{RightSize}
use Rattle.bundle.specs.Wrong.{wrong_size}
use Rattle.bundle.specs.declared.report.Report.{Report}

abbrev pub rows : ℕ
rows = 96

abbrev pub Started : List Piece → Regex → Result Report Fault → Type 0
Started ss = AfterStarts rows (λ e. Reported (Matches e) (filed opened ss))

abbrev pub Checked : List ℕ → List Piece → Result Report Fault → Type 0
Checked p ss r = AfterReading p (AfterSets (Started ss)) r

abbrev pub Outcome : List ℕ → Result Report Fault → Type 0
Outcome input r = ((RightSize input → ⊥) × (r ≡ Err (wrong_size input))) ⊎ (RightSize input × ((p : List ℕ) × (ss : List Piece) × (input ≡ written p ss) × Checked p ss r))

abbrev pub said : Result Report Fault → List ℕ
said (Ok r) = lines r
said (Err f) = line f

abbrev pub Prints : List ℕ → List ℕ → Type 0
Prints input t = (r : Result Report Fault) × Outcome input r × (t ≡ said r)
