-- How a pattern is written: the bytes, and the expression that they are read as. Assumes nothing.
--
--   ClassByte w b      w stands for the byte b inside a class
--   Member, Members    one byte, range or name of a class, and the bytes that it takes; members one after the other
--   Class w s          w stands between the brackets of the class that takes what the symbol s takes
--   Repeated w e f     the repeat w makes f of the atom e
--   Atom G, Branch G, Alternatives G   where G says what may stand between parentheses
--   Written d w e      w is read as e, with parentheses nested at most d deep
use Rattle.std.specs.Prelude.{◌≡◌, ℕ, zero, suc, ◌<◌, ◌≤◌, true, List, [], ◌∷◌, ◌++◌, length, decimal}
use Rattle.notation.specs.Characters.{kind, plain, escapable, class_kind, itself}
use Rattle.notation.specs.declared.names.Name.{Name}
use Rattle.notation.specs.Names.{written, ranges}
use Rattle.notation.specs.Expressions.{Range, Symbol, these, others, TakesSome, Regex, byte, any, one, empty, seq, alt, star, plus, opt, counted}

pub data ClassByte : List ℕ → ℕ → Type 0 where
  bare : {b : ℕ} → b < 256 → class_kind b ≡ itself → ClassByte (b ∷ []) b
  escaped : {b : ℕ} → escapable b ≡ true → ClassByte (92 ∷ (b ∷ [])) b

pub data Member : List ℕ → List Range → Type 0 where
  single : {w : List ℕ} {b : ℕ} → ClassByte w b → Member w ((b, b) ∷ [])
  range : {v w : List ℕ} {a b : ℕ} → ClassByte v a → ClassByte w b → a ≤ b → Member (v ++ 45 ∷ w) ((a, b) ∷ [])
  name : (n : Name) → Member (written n) (ranges n)

pub data Members : List ℕ → List Range → Type 0 where
  none : Members [] []
  more : {v w : List ℕ} {rs qs : List Range} → Members v rs → Member w qs → Members (v ++ w) (rs ++ qs)

pub data Class : List ℕ → Symbol → Type 0 where
  listed : {w : List ℕ} {rs : List Range} → Members w rs → 0 < length rs → Class w (these rs)
  complement : {w : List ℕ} {rs : List Range} → Members w rs → 0 < length rs → Class (94 ∷ w) (others rs)

-- what stands after the `{`: decimals have no leading zeros
pub data Counts : List ℕ → ℕ → ℕ → Type 0 where
  exactly : {m : ℕ} → m ≤ 32 → Counts (decimal m ++ 125 ∷ []) m m
  between : {m n : ℕ} → m ≤ n → n ≤ 32 → Counts (decimal m ++ 44 ∷ (decimal n ++ 125 ∷ [])) m n

pub data Repeated : List ℕ → Regex → Regex → Type 0 where
  by_star : {e : Regex} → Repeated (42 ∷ []) e (star e)
  by_plus : {e : Regex} → Repeated (43 ∷ []) e (plus e)
  by_opt : {e : Regex} → Repeated (63 ∷ []) e (opt e)
  by_count : {w : List ℕ} {m n : ℕ} {e : Regex} → Counts w m n → Repeated (123 ∷ w) e (counted m n e)

pub data Atom (G : List ℕ → Regex → Type 0) : List ℕ → Regex → Type 0 where
  a_plain : {b : ℕ} → b < 256 → kind b ≡ plain → Atom G (b ∷ []) (one (byte b))
  an_escape : {b : ℕ} → escapable b ≡ true → Atom G (92 ∷ (b ∷ [])) (one (byte b))
  a_dot : Atom G (46 ∷ []) (one any)
  a_class : {w : List ℕ} {s : Symbol} → Class w s → TakesSome s → Atom G (91 ∷ (w ++ 93 ∷ [])) (one s)
  a_group : {w : List ℕ} {e : Regex} → G w e → Atom G (40 ∷ (w ++ 41 ∷ [])) e

pub data Piece (G : List ℕ → Regex → Type 0) : List ℕ → Regex → Type 0 where
  once : {w : List ℕ} {e : Regex} → Atom G w e → Piece G w e
  repeated : {v w : List ℕ} {e f : Regex} → Atom G v e → Repeated w e f → Piece G (v ++ w) f

pub data Branch (G : List ℕ → Regex → Type 0) : List ℕ → Regex → Type 0 where
  nothing : Branch G [] empty
  followed : {v w : List ℕ} {e f : Regex} → Branch G v e → Piece G w f → Branch G (v ++ w) (seq e f)

pub data Alternatives (G : List ℕ → Regex → Type 0) : List ℕ → Regex → Type 0 where
  lone : {w : List ℕ} {e : Regex} → Branch G w e → Alternatives G w e
  also : {v w : List ℕ} {e f : Regex} → Alternatives G v e → Branch G w f → Alternatives G (v ++ 124 ∷ w) (alt e f)

abbrev pub Written : ℕ → List ℕ → Regex → Type 0
Written zero = Alternatives (λ _ _. ⊥)
Written (suc d) = Alternatives (Written d)

abbrev pub deepest : ℕ
deepest = 16

abbrev pub WellWritten : List ℕ → Type 0
WellWritten w = (e : Regex) × Written deepest w e

-- one pattern has one reading
abbrev pub OneReading : Type 0
OneReading = (w : List ℕ) (e f : Regex) → Written deepest w e → Written deepest w f → e ≡ f
