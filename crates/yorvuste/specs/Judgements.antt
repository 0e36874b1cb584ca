-- What a text comes to under a pattern, the whole way: pattern, machines, roll. Assumes nothing.
--
--   room           how many bytes a roll of 128 slots has room for
--   Told M w r     r is what the text w comes to, where M is the set: the answers, or the fault of a strip for which there is no slot
--   Started w e r  the same under a pattern that is read as e, once its sets are built: the fault of its starts comes first
--   Judges p w r   the same under the pattern p, whose own fault comes first, and then that of its sets
--   numbers r      an outcome in numbers
--   Numbers p w j  j is the outcome of p and w in numbers
use Rattle.std.specs.Prelude.{◌≡◌, ℕ, ◌*◌, ◌<◌, ◌≤◌, List, length, false, Decides, Ok, Err, Result, MatchResult}
use Rattle.bundle.specs.Checks.{rows}
use Rattle.yorvuste.specs.declared.judging.Answers.{Answers}
use Rattle.yorvuste.specs.declared.judging.Judgement.{Judgement}
use Rattle.fault.specs.Numbers.{number}
use Rattle.fault.specs.declared.Fault.{Fault}
use Rattle.fault.specs.declared.Refusal.TheVariants.{NoSuchSlot}
use Rattle.folding.specs.Tallies.{tally}
use Rattle.law.specs.Order.{AfterReading, AfterSets, AfterStarts}
use Rattle.notation.specs.Expressions.{Regex}
use Rattle.notation.specs.Meaning.{Matches}
use Rattle.roll.specs.Refusals.{fault}
use Rattle.roll.specs.Sizes.{longest}

abbrev pub room : ℕ
room = 128 * longest

abbrev pub Told : (List ℕ → Type 0) → List ℕ → Result Answers Fault → Type 0
Told M w r = MatchResult r (λ a. (length w ≤ room) × Decides a.verdict (M w) × (a.totals ≡ tally w)) (λ f. (room < length w) × (f ≡ fault NoSuchSlot 128))

abbrev pub Started : List ℕ → Regex → Result Answers Fault → Type 0
Started w = AfterStarts rows (λ e. Told (Matches e) w)

abbrev pub Judges : List ℕ → List ℕ → Result Answers Fault → Type 0
Judges p w r = AfterReading p (AfterSets (Started w)) r

abbrev pub numbers : Result Answers Fault → Judgement
numbers (Ok a) = record { refusal = 0; verdict = a.verdict; bytes = a.totals.bytes; lines = a.totals.lines; place = 0 }
numbers (Err f) = record { refusal = number f.refusal; verdict = false; bytes = 0; lines = 0; place = f.place }

abbrev pub Numbers : List ℕ → List ℕ → Judgement → Type 0
Numbers p w j = (r : Result Answers Fault) × Judges p w r × (j ≡ numbers r)
