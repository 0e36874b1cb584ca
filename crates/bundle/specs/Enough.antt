-- How many of an input's first bytes decide what its check comes to. Assumes nothing.
use Rattle.std.specs.Prelude.{ℕ, List, take, Result}
use Rattle.fault.specs.declared.Fault.{Fault}
use Rattle.bundle.specs.Checks.{Outcome}
use Rattle.bundle.specs.declared.report.Report.{Report}

-- the first n bytes, or all where there are fewer, come to exactly what the whole input comes to
pub record Enough (n : ℕ) : Type 0 where
  pub front : (input : List ℕ) (r : Result Report Fault) → Outcome input r → Outcome (take n input) r
  pub whole : (input : List ℕ) (r : Result Report Fault) → Outcome (take n input) r → Outcome input r
