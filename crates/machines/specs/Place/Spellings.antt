-- The expression written out with its places numbered, and the spellings that it allows. Assumes nothing.
--
--   Place S     a place: its number and its symbol
--   spread k e  e with the copies that `+` and counts stand for written out, its places numbered from k, left to right
--   copies n e  e, n times, one after the other
--   Spelling e  the sequences of places that e, written out from place 1, allows
--   First L p   p comes first in some member of L;  Ends L p: p ends one;  On L p: p stands in one
--   Follows L q p   p stands directly after q in some member of L
use Rattle.std.specs.Prelude.{◌≡◌, ℕ, zero, suc, ◌+◌, ◌-◌, ◌*◌, List, [], ◌∷◌, ◌++◌}
use Rattle.notation.specs.Expressions.{Expr, one, empty, seq, alt, star, plus, opt, counted}
use Rattle.notation.specs.Meaning.{Lang, Means}
use Rattle.notation.specs.Places.{places}

abbrev pub Place : Type 0 → Type 0
Place S = ℕ × S

-- n times e
abbrev pub copies : {S : Type 0} → ℕ → Expr S → Expr S
copies zero e = empty
copies (suc n) e = seq e (copies n e)

-- n parts, one after the other, the first from place k on, each `width` places long
abbrev pub series : {X : Type 0} → (ℕ → Expr X) → ℕ → ℕ → ℕ → Expr X
series part width zero k = empty
series part width (suc n) k = seq (part k) (series part width n (k + width))

abbrev pub spread : {S : Type 0} → ℕ → Expr S → Expr (Place S)
spread k (one s) = one (k, s)
spread k empty = empty
spread k (seq e f) = seq (spread k e) (spread (k + places e) f)
spread k (alt e f) = alt (spread k e) (spread (k + places e) f)
spread k (star e) = star (spread k e)
spread k (plus e) = seq (spread k e) (star (spread (k + places e) e))
spread k (opt e) = opt (spread k e)
spread k (counted m n e) =
    seq (series (λ j. spread j e) (places e) m k) (series (λ j. opt (spread j e)) (places e) (n - m) (k + m * places e))

abbrev pub SpellingFrom : {S : Type 0} → ℕ → Expr S → Lang (Place S)
SpellingFrom {S} k e ps = Means {S = Place S} {A = Place S} (λ p q. p ≡ q) (spread k e) ps

abbrev pub Spelling : {S : Type 0} → Expr S → Lang (Place S)
Spelling e = SpellingFrom 1 e

abbrev pub First : {P : Type 0} → Lang P → P → Type 0
First {P} L p = (ps : List P) × L (p ∷ ps)

abbrev pub Ends : {P : Type 0} → Lang P → P → Type 0
Ends {P} L p = (ps : List P) × L (ps ++ (p ∷ []))

abbrev pub Follows : {P : Type 0} → Lang P → P → P → Type 0
Follows {P} L q p = (us : List P) × (vs : List P) × L (us ++ (q ∷ p ∷ vs))

abbrev pub On : {P : Type 0} → Lang P → P → Type 0
On {P} L p = (us : List P) × (vs : List P) × L (us ++ (p ∷ vs))

-- as many places as letters, and each place takes its letter
abbrev pub Spells : {S A : Type 0} → (S → A → Type 0) → List (Place S) → List A → Type 0
Spells takes [] [] = Unit {0}
Spells takes [] (a ∷ w) = ⊥
Spells takes (p ∷ ps) [] = ⊥
Spells takes (p ∷ ps) (a ∷ w) = takes p.1 a × Spells takes ps w

-- some spelling of e spells w
abbrev pub Spelled : {S A : Type 0} → (S → A → Type 0) → Expr S → List A → Type 0
Spelled {S} takes e w = (ps : List (Place S)) × Spelling e ps × Spells takes ps w
