-- How a pattern is read byte by byte: an automaton with a stack. Only the reader's private functions cite it; what a pattern is says Grammar. Assumes nothing.
--
--   Frame         an open pattern: its finished branches, and the branch so far
--   Mode          between two atoms, after an atom that can still be repeated, or inside a sign
--   State         a mode, the innermost open pattern, the depth left, and the patterns around it
--   outcome_of s w   how w goes on from s: read as an expression, or refused with so many bytes unread
use Rattle.std.specs.Prelude.{ℕ, zero, suc, ◌+◌, ◌-◌, ◌*◌, Bool, cond, ◌&&◌, ◌||◌, List, [], ◌∷◌, length, ◌==◌, nat_le}
use Rattle.notation.specs.Characters.{Kind, bar, times, add, query, open', close', square, unsquare, brace, unbrace, dot, backslash, plain, kind, escapable, class_kind}
use Rattle.notation.specs.ClassAutomaton.{ClassState, entered, ClassNext, no_class, inside, finished, class_next}
use Rattle.notation.specs.Expressions.{Symbol, these, Regex, byte, any, one, empty, seq, alt, star, plus, opt, counted}

pub data Sofar : Type 0 where
  first : Sofar
  later : Regex → Sofar

pub data Frame : Type 0 where
  frame : Sofar → Regex → Frame

-- which of the two counts is being read: the most knows the least
pub data Stage : Type 0 where
  least : Stage
  most : ℕ → Stage

pub data CountState : Type 0 where
  awaiting : Stage → CountState
  digits : Stage → ℕ → CountState

pub data Mode : Type 0 where
  ready : Mode
  after : Regex → Mode
  escape : Mode
  in_class : Symbol → ClassState → Mode
  in_count : Regex → CountState → Mode

pub data State : Type 0 where
  state : Mode → Frame → ℕ → List Frame → State

pub data Next : Type 0 where
  dead : Next
  alive : State → Next

pub data Outcome : Type 0 where
  good : Regex → Outcome
  bad : ℕ → Outcome

abbrev pub push : Regex → Frame → Frame
push f (frame s e) = frame s (seq e f)

abbrev pub closed : Frame → Regex
closed (frame first e) = e
closed (frame (later a) e) = alt a e

abbrev pub opened : Frame
opened = frame first empty

-- inside a counted repeat
pub data CountKind : Type 0 where
  digit : ℕ → CountKind
  comma : CountKind
  ended : CountKind
  other : CountKind

abbrev pub count_kind : ℕ → CountKind
count_kind b = cond (nat_le 48 b && nat_le b 57) (digit (b - 48)) (cond (b == 44) comma (cond (b == 125) ended other))

pub data CountNext : Type 0 where
  no_count : CountNext
  counting : CountState → CountNext
  counts : ℕ → ℕ → CountNext

abbrev pub bound : Stage → ℕ
bound least = 0
bound (most m) = m

-- the digit k alone, or with one more behind it, can be a count from m to 32
abbrev pub count_can_begin : ℕ → ℕ → Bool
count_can_begin m k = nat_le m k || (nat_le 1 k && (nat_le k 3 && nat_le m (10 * k + 9)))

-- n with the digit k behind it is a count from m to 32
abbrev pub count_can_go_on : ℕ → ℕ → ℕ → Bool
count_can_go_on m n k = nat_le 1 n && (nat_le m (10 * n + k) && nat_le (10 * n + k) 32)

abbrev pub count_next : CountKind → CountState → CountNext
count_next (digit k) (awaiting s) = cond (count_can_begin (bound s) k) (counting (digits s k)) no_count
count_next comma (awaiting s) = no_count
count_next ended (awaiting s) = no_count
count_next other (awaiting s) = no_count
count_next (digit k) (digits s n) = cond (count_can_go_on (bound s) n k) (counting (digits s (10 * n + k))) no_count
count_next comma (digits least n) = counting (awaiting (most n))
count_next comma (digits (most m) n) = no_count
count_next ended (digits least n) = counts n n
count_next ended (digits (most m) n) = cond (nat_le m n) (counts m n) no_count
count_next other (digits s n) = no_count

abbrev pub begin : Kind → ℕ → Frame → ℕ → List Frame → Next
begin bar b fr d ctx = alive (state ready (frame (later (closed fr)) empty) d ctx)
begin times b fr d ctx = dead
begin add b fr d ctx = dead
begin query b fr d ctx = dead
begin open' b fr zero ctx = dead
begin open' b fr (suc d) ctx = alive (state ready opened d (fr ∷ ctx))
begin close' b fr d [] = dead
begin close' b fr d (o ∷ ctx) = alive (state (after (closed fr)) o (suc d) ctx)
begin square b fr d ctx = alive (state (in_class (these []) entered) fr d ctx)
begin unsquare b fr d ctx = dead
begin brace b fr d ctx = dead
begin unbrace b fr d ctx = dead
begin dot b fr d ctx = alive (state (after (one any)) fr d ctx)
begin backslash b fr d ctx = alive (state escape fr d ctx)
begin plain b fr d ctx = alive (state (after (one (byte b))) fr d ctx)

abbrev pub repeat_or : Kind → ℕ → Regex → Frame → ℕ → List Frame → Next
repeat_or times b f fr d ctx = alive (state ready (push (star f) fr) d ctx)
repeat_or add b f fr d ctx = alive (state ready (push (plus f) fr) d ctx)
repeat_or query b f fr d ctx = alive (state ready (push (opt f) fr) d ctx)
repeat_or brace b f fr d ctx = alive (state (in_count f (awaiting least)) fr d ctx)
repeat_or bar b f fr d ctx = begin bar b (push f fr) d ctx
repeat_or open' b f fr d ctx = begin open' b (push f fr) d ctx
repeat_or close' b f fr d ctx = begin close' b (push f fr) d ctx
repeat_or square b f fr d ctx = begin square b (push f fr) d ctx
repeat_or unsquare b f fr d ctx = begin unsquare b (push f fr) d ctx
repeat_or unbrace b f fr d ctx = begin unbrace b (push f fr) d ctx
repeat_or dot b f fr d ctx = begin dot b (push f fr) d ctx
repeat_or backslash b f fr d ctx = begin backslash b (push f fr) d ctx
repeat_or plain b f fr d ctx = begin plain b (push f fr) d ctx

abbrev pub of_class : ClassNext → Frame → ℕ → List Frame → Next
of_class no_class fr d ctx = dead
of_class (inside s c) fr d ctx = alive (state (in_class s c) fr d ctx)
of_class (finished s) fr d ctx = alive (state (after (one s)) fr d ctx)

abbrev pub of_count : CountNext → Regex → Frame → ℕ → List Frame → Next
of_count no_count f fr d ctx = dead
of_count (counting c) f fr d ctx = alive (state (in_count f c) fr d ctx)
of_count (counts m n) f fr d ctx = alive (state ready (push (counted m n f) fr) d ctx)

abbrev pub step : Mode → ℕ → Frame → ℕ → List Frame → Next
step ready b fr d ctx = begin (kind b) b fr d ctx
step (after f) b fr d ctx = repeat_or (kind b) b f fr d ctx
step escape b fr d ctx = cond (escapable b) (alive (state (after (one (byte b))) fr d ctx)) dead
step (in_class s c) b fr d ctx = of_class (class_next (class_kind b) b s c) fr d ctx
step (in_count f c) b fr d ctx = of_count (count_next (count_kind b) c) f fr d ctx

abbrev pub finish : State → Outcome
finish (state ready fr d []) = good (closed fr)
finish (state (after f) fr d []) = good (closed (push f fr))
finish (state ready fr d (o ∷ ctx)) = bad 0
finish (state (after f) fr d (o ∷ ctx)) = bad 0
finish (state escape fr d ctx) = bad 0
finish (state (in_class s c) fr d ctx) = bad 0
finish (state (in_count f c) fr d ctx) = bad 0

abbrev pub step_of : State → ℕ → Next
step_of (state m fr d ctx) b = step m b fr d ctx

unfoldable pub outcome_of : State → List ℕ → Outcome
outcome_of s [] = finish s
outcome_of s (b ∷ w) = elim (step_of s b) [ dead ↦ bad (suc (length w)) | alive t ↦ outcome_of t w ]

abbrev pub start : State
start = state ready opened 16 []
