-- What the recursive reader answers for a sign, a group and a run of alternatives. Only private functions cite it. Assumes nothing.
--
--   Steps p at d K end K'    from `at` to `end` stands one sign or group; K was kept before it, and K' is after it
--   GroupRead p at d end E   from `at` to `end` stands a group whose expression satisfies E
--   AlternativesRead         the same of what stands between parentheses, up to the closing one or the end
--   Stepped, GroupOf, AlternativesOf   what is answered, of the cursor that the reader begins at
use Rattle.std.specs.Prelude.{◌≡◌, ℕ, ◌<◌, ◌≤◌, List, length, drop, slice_index, Option, MatchOption}
use Rattle.fault.specs.declared.Fault.{Fault}
use Rattle.pattern.specs.declared.cursor.Cursor.{Cursor}
use Rattle.pattern.specs.declared.draft.Draft.{Draft}
use Rattle.pattern.specs.Drafts.{Keeps}
use Rattle.notation.specs.Expressions.{Regex}
use Rattle.notation.specs.Automaton.{Frame, Mode, ready, after, state, opened, closed, outcome_of}
use Rattle.notation.specs.Refusals.{Stops}

-- here the innermost open pattern ends
abbrev pub Halts : List ℕ → ℕ → Type 0
Halts p at = at < length p → slice_index p at ≡ 41

pub record LeadsOn (p : List ℕ) (at d end : ℕ) (m : Mode) (fr : Frame) (K : Mode → Frame → Type 0) : Type 0 where
  pub mode : Mode
  pub frame : Frame
  pub keeps : K mode frame
  pub runs : (ctx : List Frame) → outcome_of (state m fr d ctx) (drop at p) ≡ outcome_of (state mode frame d ctx) (drop end p)

pub record Steps (p : List ℕ) (at d : ℕ) (K : Mode → Frame → Type 0) (end : ℕ) (K' : Mode → Frame → Type 0) : Type 0 where
  pub forward : at < end
  pub within : end ≤ length p
  pub leads : (m : Mode) (fr : Frame) → K m fr → LeadsOn p at d end m fr K'

-- what a step answers where it is not refused: the end of the alternatives, or the draft after it
abbrev pub Stepped : {T : Type 0} → (T → Regex → Type 0) → Cursor → ℕ → Draft T → Option (Cursor × Draft T) → Type 0
Stepped S from d draft o = MatchOption o (Halts from.pattern.now from.at) (λ x. Steps from.pattern.now from.at d (Keeps S draft) x.0.at (Keeps S x.1))

abbrev pub StepStops : List ℕ → ℕ → ℕ → (Mode → Frame → Type 0) → Fault → Type 0
StepStops p at d K f = (m : Mode) (fr : Frame) → K m fr → (ctx : List Frame) → Stops p f (outcome_of (state m fr d ctx) (drop at p))

pub record GroupRead (p : List ℕ) (at d end : ℕ) (E : Regex → Type 0) : Type 0 where
  pub forward : at < end
  pub within : end ≤ length p
  pub expression : Regex
  pub value : E expression
  pub runs : (fr : Frame) (ctx : List Frame) → outcome_of (state ready fr d ctx) (drop at p) ≡ outcome_of (state (after expression) fr d ctx) (drop end p)

abbrev pub GroupStops : List ℕ → ℕ → ℕ → Fault → Type 0
GroupStops p at d f = (fr : Frame) (ctx : List Frame) → Stops p f (outcome_of (state ready fr d ctx) (drop at p))

pub record AlternativesRead (p : List ℕ) (from d end : ℕ) (E : Regex → Type 0) : Type 0 where
  pub forward : from ≤ end
  pub within : end ≤ length p
  pub halts : Halts p end
  pub frame : Frame
  pub value : E (closed frame)
  pub runs : (ctx : List Frame) → outcome_of (state ready opened d ctx) (drop from p) ≡ outcome_of (state ready frame d ctx) (drop end p)

abbrev pub AlternativesStop : List ℕ → ℕ → ℕ → Fault → Type 0
AlternativesStop p from d f = (ctx : List Frame) → Stops p f (outcome_of (state ready opened d ctx) (drop from p))

abbrev pub GroupOf : {T : Type 0} → (T → Regex → Type 0) → Cursor → ℕ → Cursor × T → Type 0
GroupOf S from d o = GroupRead from.pattern.now from.at d o.0.at (S o.1)

abbrev pub AlternativesOf : {T : Type 0} → (T → Regex → Type 0) → Cursor → ℕ → Cursor × T → Type 0
AlternativesOf S from d o = AlternativesRead from.pattern.now from.at d o.0.at (S o.1)
