-- What is read of a class, from after its bracket. Only private functions cite it. Assumes nothing.
--
--   Makes c s             the symbol s is what the finished members of the class c make of it
--   IsAt c s              c makes s, and s suits its member in hand
--   Leads, Advances old b t new   what the class answers to the byte b, None where b cannot stand, and what it is then
--   ClassRead p at end    the inside of the class is p from `at` to `end`, where its bracket stands
--   ClassStops            the fault has the place where the automaton stops
use Rattle.std.specs.Prelude.{◌≡◌, ℕ, ◌+◌, ◌<◌, ◌≤◌, false, true, Option, None, Some, List, [], length, take, drop, ◌≢◌, slice_index, slice_index_or, slice_range}
use Rattle.fault.specs.declared.Fault.{Fault}
use Rattle.pattern.specs.declared.class.OpenClass.{OpenClass}
use Rattle.pattern.specs.declared.class.Onward.{Onward}
use Rattle.pattern.specs.declared.class.Onward.TheVariants.{Inside as goes_on, Ended as ends}
use Rattle.notation.specs.Characters.{class_kind}
use Rattle.notation.specs.Expressions.{Symbol, these, others, TakesSome}
use Rattle.notation.specs.Grammar.{Class}
use Rattle.notation.specs.ClassAutomaton.{entered, ClassNext, no_class, inside, finished, class_next}
use Rattle.notation.specs.Automaton.{Frame, state, in_class, outcome_of}
use Rattle.notation.specs.Refusals.{Stops}
use Rattle.pattern.specs.ByteSets.{Holds}
use Rattle.pattern.specs.Members.{state_of, Suits}

abbrev pub Makes : OpenClass → Symbol → Type 0
Makes c (these rs) = (c.complement ≡ false) × Holds c.members (these rs)
Makes c (others rs) = (c.complement ≡ true) × Holds c.members (these rs)

pub record IsAt (c : OpenClass) (s : Symbol) : Type 0 where
  pub makes : Makes c s
  pub suits : Suits s c.progress

abbrev pub Leads : Option Onward → ClassNext → OpenClass → Type 0
Leads None n new = n ≡ no_class
Leads (Some goes_on) n new = (s : Symbol) × (n ≡ inside s (state_of new.progress)) × IsAt new s
Leads (Some ends) n new = (s : Symbol) × (n ≡ finished s) × Makes new s

abbrev pub Advances : OpenClass → ℕ → Option Onward → OpenClass → Type 0
Advances old b t new = (s : Symbol) → IsAt old s → Leads t (class_next (class_kind b) b s (state_of old.progress)) new

pub record ClassRead (p : List ℕ) (at end : ℕ) : Type 0 where
  pub forward : at ≤ end
  pub within : end < length p
  pub bracket : slice_index_or p end 0 ≡ 93
  pub symbol : Symbol
  pub written : Class (slice_range p at end) symbol
  pub some : TakesSome symbol

abbrev pub ClassStops : List ℕ → ℕ → Fault → Type 0
ClassStops p at f = (fr : Frame) (d : ℕ) (ctx : List Frame) → Stops p f (outcome_of (state (in_class (these []) entered) fr d ctx) (drop at p))

-- no class stands from `at` on, and the fault has its place
pub record ClassRefused (p : List ℕ) (at : ℕ) (f : Fault) : Type 0 where
  pub none : (n : ℕ) (s : Symbol) → Class (take n (drop at p)) s → TakesSome s → at + n < length p → slice_index p (at + n) ≢ 93
  pub stops : ClassStops p at f
