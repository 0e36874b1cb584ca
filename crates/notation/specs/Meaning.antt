-- The set of texts that an expression means, over any alphabet. Assumes nothing.
--
--   Lang A          a set of sequences of letters
--   Joined, Union, Closure   the three operations
--   Copies n L      n members of L, one after the other
--   Means takes e   the set of e, where `takes s` is the set of letters that the symbol s takes
use Rattle.std.specs.Prelude.{◌≡◌, ℕ, zero, suc, ◌-◌, ◌⊎◌, List, [], ◌∷◌, ◌++◌}
use Rattle.std.specs.List.{flat_map, AllByRecursion}
use Rattle.notation.specs.Expressions.{Expr, one, empty, seq, alt, star, plus, opt, counted, Regex, Takes}

abbrev pub Lang : Type 0 → Type 1
Lang A = List A → Type 0

abbrev pub Empty : {A : Type 0} → Lang A
Empty w = w ≡ []

abbrev pub Joined : {A : Type 0} → Lang A → Lang A → Lang A
Joined {A} L M w = (u : List A) × (v : List A) × (w ≡ u ++ v) × L u × M v

abbrev pub Union : {A : Type 0} → Lang A → Lang A → Lang A
Union L M w = L w ⊎ M w

abbrev pub Closure : {A : Type 0} → Lang A → Lang A
Closure {A} L w = (ws : List (List A)) × AllByRecursion L ws × (w ≡ flat_map (λ u. u) ws)

abbrev pub Copies : {A : Type 0} → ℕ → Lang A → Lang A
Copies zero L = Empty
Copies (suc n) L = Joined L (Copies n L)

abbrev pub Means : {S A : Type 0} → (S → A → Type 0) → Expr S → Lang A
Means {S} {A} takes (one s) w = (a : A) × (w ≡ a ∷ []) × takes s a
Means takes empty w = Empty w
Means takes (seq e f) w = Joined (Means takes e) (Means takes f) w
Means takes (alt e f) w = Union (Means takes e) (Means takes f) w
Means takes (star e) w = Closure (Means takes e) w
Means takes (plus e) w = Joined (Means takes e) (Closure (Means takes e)) w
Means takes (opt e) w = Union (Means takes e) Empty w
Means takes (counted m n e) w = Joined (Copies m (Means takes e)) (Copies (n - m) (Union (Means takes e) Empty)) w

-- what a pattern's expression means: the text is matched entire
abbrev pub Matches : Regex → List ℕ → Type 0
Matches e w = Means Takes e w
