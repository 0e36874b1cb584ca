-- The four lines of text that stand for a report. Assumes nothing.
use Rattle.std.specs.Prelude.{ℕ, Bool, true, false, List, ◌++◌, Some, None, codes, decimal, Option}
use Rattle.bundle.specs.declared.report.Report.{Report}

abbrev pub answer : Bool → List ℕ
answer true = codes "yes"
answer false = codes "no"

abbrev pub at : Option ℕ → List ℕ
at None = codes "none"
at (Some s) = decimal s

abbrev pub lines : Report → List ℕ
lines r = codes "verdict " ++ (answer r.verdict ++ (codes "\nbytes " ++ (decimal r.totals.bytes ++ (codes "\nlines " ++ (decimal r.totals.lines ++ (codes "\nlost at " ++ at r.culprit))))))
