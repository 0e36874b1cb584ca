-- What text has brought the automaton to a state: the derivations that are finished, and the part of a sign. Assumes nothing.
--
--   ClassSoFar s c t   t is what has been read of a class, and the member in hand can end
--   Sign d m t      t is what has been read of the sign or atom that the mode m is in
--   Open d fr u     u is an open pattern, up to the end of a piece
--   Around d ctx o  o is what stands before the innermost open pattern
use Rattle.std.proofs.Common.{◌≡◌, ℕ, zero, suc, ◌+◌, ◌*◌, ◌<◌, ◌≤◌, ◌⊎◌, List, [], ◌∷◌, ◌++◌, decimal}
use Rattle.std.specs.Prelude.{true, None}
use Rattle.notation.specs.Expressions.{Symbol, these, others, Regex}
use Rattle.notation.specs.Grammar.{ClassByte, Members, Atom, Branch, Alternatives, Written}
use Rattle.notation.specs.ClassAutomaton.{ClassState, entered, fresh, in_escape, member, dashed, dashed_escape, naming, spelling, can_end}
use Rattle.notation.specs.Automaton.{Frame, frame, first, later, Mode, ready, after, escape, in_class, in_count, CountState, awaiting, digits, Stage, least, most, bound, State, state}

-- what stands between parentheses at depth d
abbrev pub Group : ℕ → List ℕ → Regex → Type 0
Group zero = λ _ _. ⊥
Group (suc d) = Written d

-- the members of a class that are finished, and the `^` of a complement
abbrev pub Begun : Symbol → List ℕ → Type 0
Begun (these rs) v = Members v rs
Begun (others rs) v = (u : List ℕ) × (v ≡ 94 ∷ u) × Members u rs

-- with the member in hand
abbrev pub Inside : Symbol → ClassState → List ℕ → Type 0
Inside s entered t = (s ≡ these []) × (t ≡ [])
Inside s fresh t = Begun s t
Inside s in_escape t = (v : List ℕ) × (t ≡ v ++ 92 ∷ []) × Begun s v
Inside s (member a) t = (v : List ℕ) × (y : List ℕ) × (t ≡ v ++ y) × Begun s v × ClassByte y a
Inside s (dashed a) t = (v : List ℕ) × (y : List ℕ) × (t ≡ v ++ (y ++ 45 ∷ [])) × Begun s v × ClassByte y a
Inside s (dashed_escape a) t = (v : List ℕ) × (y : List ℕ) × (t ≡ v ++ (y ++ 45 ∷ (92 ∷ []))) × Begun s v × ClassByte y a
Inside s (naming w) t = (v : List ℕ) × (t ≡ v ++ w) × Begun s v × (spelling w ≡ None)

abbrev pub ClassSoFar : Symbol → ClassState → List ℕ → Type 0
ClassSoFar s c t = (can_end s c ≡ true) × Inside s c t

-- what has been read before the count in hand
abbrev pub Before : Stage → List ℕ → Type 0
Before least y = y ≡ []
Before (most m) y = (y ≡ decimal m ++ 44 ∷ []) × (m ≤ 32)

-- n is a count from m to 32, or can become one by one more digit
abbrev pub Hopeful : ℕ → ℕ → Type 0
Hopeful m n = (m ≤ n) ⊎ ((0 < n) × (n ≤ 3) × (m ≤ 10 * n + 9))

abbrev pub Count : CountState → List ℕ → Type 0
Count (awaiting s) y = Before s y
Count (digits s n) y = (x : List ℕ) × (y ≡ x ++ decimal n) × Before s x × (n ≤ 32) × Hopeful (bound s) n

abbrev pub Sign : ℕ → Mode → List ℕ → Type 0
Sign d ready t = t ≡ []
Sign d (after f) t = Atom (Group d) t f
Sign d escape t = t ≡ 92 ∷ []
Sign d (in_class s c) t = (v : List ℕ) × (t ≡ 91 ∷ v) × ClassSoFar s c v
Sign d (in_count f c) t = (v : List ℕ) × (y : List ℕ) × (t ≡ v ++ 123 ∷ y) × Atom (Group d) v f × Count c y

abbrev pub Open : ℕ → Frame → List ℕ → Type 0
Open d (frame first e) u = Branch (Group d) u e
Open d (frame (later a) e) u = (x : List ℕ) × (y : List ℕ) × (u ≡ x ++ 124 ∷ y) × Alternatives (Group d) x a × Branch (Group d) y e

abbrev pub Around : ℕ → List Frame → List ℕ → Type 0
Around d [] o = (o ≡ []) × (d ≡ 16)
Around d (fr ∷ ctx) o = (p : List ℕ) × (u : List ℕ) × (o ≡ p ++ (u ++ 40 ∷ [])) × Around (suc d) ctx p × Open (suc d) fr u

abbrev pub Seen : State → List ℕ → Type 0
Seen (state m fr d ctx) w = (o : List ℕ) × (u : List ℕ) × (t : List ℕ) × (w ≡ o ++ (u ++ t)) × Around d ctx o × Open d fr u × Sign d m t
