-- The signs of a pattern, as the parts of it that they came from. Only private functions cite it. Assumes nothing.
--
--   text s            the bytes of the sign s
--   Formed repeatable s    s is a sign of its kind; a repeat only where one may stand
--   Handed p at repeatable s   s is the sign at `at`, or the end of p
use Rattle.std.specs.Prelude.{◌≡◌, ℕ, ◌+◌, Bool, true, false, List, [], ◌∷◌, ◌++◌, length, take, drop, nat_le}
use Rattle.fault.specs.declared.Fault.{Fault}
use Rattle.pattern.specs.declared.sign.Sign.{Sign}
use Rattle.pattern.specs.declared.sign.Sign.TheVariants.{Plain, Escape, Any, Class, Bar, Star, Plus, Question, Counted, Open, Close, End}
use Rattle.notation.specs.Characters.{kind, plain, escapable}
use Rattle.notation.specs.Expressions.{Symbol, TakesSome, Regex}
use Rattle.notation.specs.Grammar.{Class as Written, Atom, Repeated}
use Rattle.notation.specs.Automaton.{Frame, Mode, ready, after, state, outcome_of}
use Rattle.notation.specs.Refusals.{Stops}
use Rattle.pattern.specs.Repeats.{Braced}

-- a class is handed out as what stands between its brackets
abbrev pub text : Sign → List ℕ
text (Plain t) = t.now
text (Escape t) = t.now
text (Any t) = t.now
text (Class t) = 91 ∷ (t.now ++ 93 ∷ [])
text (Bar t) = t.now
text (Star t) = t.now
text (Plus t) = t.now
text (Question t) = t.now
text (Counted t) = t.now
text (Open t) = t.now
text (Close t) = t.now
text End = []

-- the texts of signs, where a repeat may stand and where it may not
pub data SignText : Bool → List ℕ → Type 0 where
  an_atom : {r : Bool} {w : List ℕ} {e : Regex} → Atom (λ _ _. ⊥) w e → SignText r w
  a_bar : {r : Bool} → SignText r (124 ∷ [])
  an_open : {r : Bool} → SignText r (40 ∷ [])
  a_close : {r : Bool} → SignText r (41 ∷ [])
  a_repeat : {w : List ℕ} {e f : Regex} → Repeated w e f → SignText true w

abbrev pub Formed : Bool → Sign → Type 0
Formed repeatable (Plain t) = (b : ℕ) × (t.now ≡ b ∷ []) × (kind b ≡ plain)
Formed repeatable (Escape t) = (b : ℕ) × (t.now ≡ 92 ∷ (b ∷ [])) × (escapable b ≡ true)
Formed repeatable (Any t) = t.now ≡ 46 ∷ []
Formed repeatable (Class t) = (s : Symbol) × Written t.now s × TakesSome s
Formed repeatable (Bar t) = t.now ≡ 124 ∷ []
Formed repeatable (Star t) = (t.now ≡ 42 ∷ []) × (repeatable ≡ true)
Formed repeatable (Plus t) = (t.now ≡ 43 ∷ []) × (repeatable ≡ true)
Formed repeatable (Question t) = (t.now ≡ 63 ∷ []) × (repeatable ≡ true)
Formed repeatable (Counted t) = ((m : ℕ) × (n : ℕ) × Braced t.now m n) × (repeatable ≡ true)
Formed repeatable (Open t) = t.now ≡ 40 ∷ []
Formed repeatable (Close t) = t.now ≡ 41 ∷ []
Formed repeatable End = Unit {0}

abbrev pub is_end : Sign → Bool
is_end (Plain t) = false
is_end (Escape t) = false
is_end (Any t) = false
is_end (Class t) = false
is_end (Bar t) = false
is_end (Star t) = false
is_end (Plus t) = false
is_end (Question t) = false
is_end (Counted t) = false
is_end (Open t) = false
is_end (Close t) = false
is_end End = true

-- part of a branch or between two of them, and so neither a parenthesis nor the end
abbrev pub is_inner : Sign → Bool
is_inner (Plain t) = true
is_inner (Escape t) = true
is_inner (Any t) = true
is_inner (Class t) = true
is_inner (Bar t) = true
is_inner (Star t) = true
is_inner (Plus t) = true
is_inner (Question t) = true
is_inner (Counted t) = true
is_inner (Open t) = false
is_inner (Close t) = false
is_inner End = false

-- in whichever mode the automaton waits for a sign, the fault has the place where it stops
abbrev pub Waits : Bool → Mode → Type 0
Waits false m = m ≡ ready
Waits true m = (f : Regex) × (m ≡ after f)

abbrev pub SignStops : List ℕ → ℕ → Bool → Fault → Type 0
SignStops p at repeatable f = (m : Mode) → Waits repeatable m → (fr : Frame) (d : ℕ) (ctx : List Frame) → Stops p f (outcome_of (state m fr d ctx) (drop at p))

-- no sign stands at `at`, and the fault has its place
pub record SignRefused (p : List ℕ) (at : ℕ) (repeatable : Bool) (f : Fault) : Type 0 where
  pub none : (n : ℕ) → SignText repeatable (take n (drop at p)) → ⊥
  pub stops : SignStops p at repeatable f

pub record Handed (p : List ℕ) (at : ℕ) (repeatable : Bool) (s : Sign) : Type 0 where
  pub formed : Formed repeatable s
  pub part : drop at p ≡ text s ++ drop (at + length (text s)) p
  pub ended : is_end s ≡ nat_le (length p) at
