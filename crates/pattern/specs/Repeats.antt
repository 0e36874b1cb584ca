-- What is read of a counted repeat, from after its brace. Only private functions cite it. Assumes nothing.
--
--   NumberRead p at least n end   from `at` to `end` stands n, as the first or as the second count
--   NumberStops, CountsStop       the fault has the place where the automaton stops
--   NumberRefused, CountsRefused  and no count, or no counts, stand there
--   Braced t m n                  t is a counted repeat from its brace on, of the counts m and n
--   CountsRead p at m n end       from `at` to `end` stand the counts m and n, with the closing brace
use Rattle.std.specs.Prelude.{◌≡◌, ℕ, ◌+◌, ◌<◌, ◌≤◌, false, List, ◌∷◌, ◌++◌, length, take, drop, decimal, slice_index}
use Rattle.fault.specs.declared.Fault.{Fault}
use Rattle.fault.specs.declared.Refusal.TheVariants.{BadlyWritten}
use Rattle.notation.specs.Expressions.{Regex}
use Rattle.notation.specs.Grammar.{Counts}
use Rattle.notation.specs.Automaton.{Frame, state, in_count, awaiting, digits, Stage, least, bound, count_can_go_on, count_kind, digit, outcome_of}
use Rattle.notation.specs.Refusals.{Stops, refused}

pub record NumberRead (p : List ℕ) (at low n end : ℕ) : Type 0 where
  pub within : end ≤ length p
  pub long : at + length (decimal n) ≡ end
  pub text : drop at p ≡ decimal n ++ drop end p
  pub small : n ≤ 32
  pub stuck : (k : ℕ) → count_kind (slice_index p end) ≡ digit k → end < length p → count_can_go_on low n k ≡ false
  pub runs : (s : Stage) → bound s ≡ low → (e : Regex) (fr : Frame) (d : ℕ) (ctx : List Frame)
      → outcome_of (state (in_count e (awaiting s)) fr d ctx) (drop at p) ≡ outcome_of (state (in_count e (digits s n)) fr d ctx) (drop end p)

abbrev pub NumberStops : List ℕ → ℕ → ℕ → Fault → Type 0
NumberStops p at low f = (s : Stage) → bound s ≡ low → (e : Regex) (fr : Frame) (d : ℕ) (ctx : List Frame) → Stops p f (outcome_of (state (in_count e (awaiting s)) fr d ctx) (drop at p))

abbrev pub Braced : List ℕ → ℕ → ℕ → Type 0
Braced t m n = (w : List ℕ) × (t ≡ 123 ∷ w) × Counts w m n

pub record CountsRead (p : List ℕ) (at m n end : ℕ) : Type 0 where
  pub within : end ≤ length p
  pub words : List ℕ
  pub counted : Counts words m n
  pub long : at + length words ≡ end
  pub part : drop at p ≡ words ++ drop end p

abbrev pub CountsStop : List ℕ → ℕ → Fault → Type 0
CountsStop p at f = (e : Regex) (fr : Frame) (d : ℕ) (ctx : List Frame) → Stops p f (outcome_of (state (in_count e (awaiting least)) fr d ctx) (drop at p))

pub record NumberRefused (p : List ℕ) (at low : ℕ) (f : Fault) : Type 0 where
  pub is : f ≡ refused BadlyWritten at
  pub stops : NumberStops p at low f

-- no counts stand at `at`, and the fault has its place
pub record CountsRefused (p : List ℕ) (at : ℕ) (f : Fault) : Type 0 where
  pub none : (k m n : ℕ) → Counts (take k (drop at p)) m n → ⊥
  pub stops : CountsStop p at f
