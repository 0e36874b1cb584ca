-- What the calls of a folding answer, as relations over its leg function, and that joining is associative. Assumes nothing.
--
--   leg w       the leg of the text w: what is kept of w once the text is gone
--   Steps       r is the leg of a text and one byte more
--   Extends     r is the leg of a text and a text more
--   Joins       r is the leg of two texts joined, from the leg of each
--   Folds       r is the leg of a text and a row of texts more, from the leg of each
--   Associative joining legs of texts in either grouping gives one leg
use Rattle.std.specs.Prelude.{◌≡◌, ℕ, List, [], ◌∷◌, ◌++◌, map}
use Rattle.folding.specs.Texts.{Bytes, AllBytes, together}

abbrev pub Steps : {L : Type 0} → (List ℕ → L) → L → ℕ → L → Type 0
Steps leg at c r = (w : List ℕ) → Bytes w → at ≡ leg w → r ≡ leg (w ++ (c ∷ []))

abbrev pub Extends : {L : Type 0} → (List ℕ → L) → L → List ℕ → L → Type 0
Extends leg at text r = (w : List ℕ) → Bytes w → at ≡ leg w → r ≡ leg (w ++ text)

abbrev pub Joins : {L : Type 0} → (List ℕ → L) → L → L → L → Type 0
Joins leg a b r = (v w : List ℕ) → Bytes v → Bytes w → a ≡ leg v → b ≡ leg w → r ≡ leg (v ++ w)

abbrev pub Folds : {L : Type 0} → (List ℕ → L) → L → List L → L → Type 0
Folds leg from legs r =
    (w : List ℕ) (texts : List (List ℕ)) → Bytes w → AllBytes texts → from ≡ leg w → legs ≡ map leg texts
    → r ≡ leg (w ++ together texts)

abbrev pub Associative : {L : Type 0} → (List ℕ → L) → Type 0
Associative {L} leg =
    (u v w : List ℕ) → Bytes u → Bytes v → Bytes w → (uv vw left right : L)
    → Joins leg (leg u) (leg v) uv → Joins leg uv (leg w) left → Joins leg (leg v) (leg w) vw → Joins leg (leg u) vw right
    → left ≡ right
