-- What checking strips against a set of texts comes to, in terms of the plain roll alone. Assumes nothing.
--
--   opened       the plain roll of 128 empty slots
--   filed p ss   the plain roll once the strips are filed in their order, or the fault of the first that is refused
--   begun l t ss the same from the opening on, which is lent l legs and t tallies
--   Reports M p r    r is the report of a roll that holds the texts of p, where M is the set
--   Reported M o r   the same, or the fault that ended the filing
use Rattle.std.specs.Prelude.{◌≡◌, ℕ, List, [], ◌∷◌, replicate, Some, None, Ok, Err, Decides, Option, Result}
use Rattle.fault.specs.declared.Fault.{Fault}
use Rattle.folding.specs.Losing.{FirstLost}
use Rattle.folding.specs.Tallies.{tally}
use Rattle.roll.specs.Calls.{after}
use Rattle.roll.specs.Plain.{Plain, texts, whole, marks}
use Rattle.roll.specs.Refusals.{opening, filing, refusal}
use Rattle.bundle.specs.Layout.{Piece}
use Rattle.bundle.specs.declared.report.Report.{Report}

abbrev pub opened : Plain
opened = replicate 128 None

-- a refusal ends it
abbrev pub unless : {X : Type 0} → Option Fault → Result X Fault → Result X Fault
unless None r = r
unless (Some f) r = Err f

abbrev pub filed : Plain → List Piece → Result Plain Fault
filed p [] = Ok p
filed p (s ∷ ss) = unless (refusal (marks p) (filing s.slot s.text) 256 256) (filed (after p (filing s.slot s.text)) ss)

abbrev pub begun : ℕ → ℕ → List Piece → Result Plain Fault
begun l t ss = unless (refusal [] (opening 128) l t) (filed opened ss)

pub record Reports (M : List ℕ → Type 0) (p : Plain) (r : Report) : Type 0 where
  pub verdict : Decides r.verdict (M (whole p))
  pub totals : r.totals ≡ tally (whole p)
  pub culprit : FirstLost M (texts p) r.culprit

abbrev pub Reported : (List ℕ → Type 0) → Result Plain Fault → Result Report Fault → Type 0
Reported M (Ok p) (Ok r) = Reports M p r
Reported M (Ok p) (Err f) = ⊥
Reported M (Err f) r = r ≡ Err f
