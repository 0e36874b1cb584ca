-- What the reader keeps while it reads: parts that stand for what has been read. Only private functions cite it. Assumes nothing.
--
--   Keeps S c m fr   c stands for an open pattern, and for the atom that can still be repeated, where S says what a part stands for
--   settled m fr     the open pattern once that atom has joined its branch
--   Grows K K' r t   K' is kept once the sign of the text t has been read too
--   .. Kept          what an atom, a bar, a repeat and the end make of what was kept
use Rattle.std.specs.Prelude.{◌≡◌, ℕ, Bool, true, List, [], ◌∷◌, IsNone}
use Rattle.std.specs.Option.{IsSomeAnd}
use Rattle.pattern.specs.declared.draft.Draft.{Draft}
use Rattle.notation.specs.Expressions.{Regex, empty}
use Rattle.notation.specs.Grammar.{Atom, Repeated}
use Rattle.notation.specs.Automaton.{first, later, Mode, ready, after, escape, in_class, in_count, Frame, frame, push, closed}

abbrev pub Opens : {T : Type 0} → (T → Regex → Type 0) → Draft T → Frame → Type 0
Opens S c (frame first e) = IsNone c.earlier × S c.branch e
Opens S c (frame (later a) e) = IsSomeAnd c.earlier (λ x. S x a) × S c.branch e

abbrev pub Keeps : {T : Type 0} → (T → Regex → Type 0) → Draft T → Mode → Frame → Type 0
Keeps S c ready fr = Opens S c fr × IsNone c.last
Keeps S c (after f) fr = Opens S c fr × IsSomeAnd c.last (λ x. S x f)
Keeps S c escape fr = ⊥
Keeps S c (in_class s k) fr = ⊥
Keeps S c (in_count f s) fr = ⊥

abbrev pub settled : Mode → Frame → Frame
settled ready fr = fr
settled (after f) fr = push f fr
settled escape fr = fr
settled (in_class s k) fr = fr
settled (in_count f s) fr = fr

abbrev pub branch_of : Frame → Regex
branch_of (frame s e) = e

abbrev pub WholeKept : {T : Type 0} → (T → Regex → Type 0) → Draft T → T → Type 0
WholeKept S c r = (m : Mode) (fr : Frame) → Keeps S c m fr → S r (branch_of (settled m fr))

abbrev pub ClosedKept : (Mode → Frame → Type 0) → (Regex → Type 0) → Type 0
ClosedKept K E = (m : Mode) (fr : Frame) → K m fr → E (closed (settled m fr))

abbrev pub AtomKept : (Mode → Frame → Type 0) → (Mode → Frame → Type 0) → Regex → Type 0
AtomKept K K' e = (m : Mode) (fr : Frame) → K m fr → K' (after e) (settled m fr)

abbrev pub BarKept : (Mode → Frame → Type 0) → (Mode → Frame → Type 0) → Type 0
BarKept K K' = (m : Mode) (fr : Frame) → K m fr → K' ready (frame (later (closed (settled m fr))) empty)

-- what R makes of a part stands for g of what the part stands for
abbrev pub Repeats : {T : Type 0} → (T → Regex → Type 0) → (T → T → Type 0) → (Regex → Regex) → Type 0
Repeats {T} S R g = (x y : T) (f : Regex) → R x y → S x f → S y (g f)

abbrev pub RepeatKept : (Mode → Frame → Type 0) → (Mode → Frame → Type 0) → (Regex → Regex) → Type 0
RepeatKept K K' g = (f : Regex) (fr : Frame) → K (after f) fr → K' ready (push (g f) fr)

-- what the sign of the text t makes of what was kept, where r says whether a repeat may stand
pub data Grows (K K' : Mode → Frame → Type 0) (r : Bool) (t : List ℕ) : Type 0 where
  by_atom : (e : Regex) → Atom (λ _ _. ⊥) t e → AtomKept K K' e → Grows K K' r t
  by_bar : t ≡ 124 ∷ [] → BarKept K K' → Grows K K' r t
  by_repeat : r ≡ true → (g : Regex → Regex) → ((e : Regex) → Repeated t e (g e)) → RepeatKept K K' g → Grows K K' r t
