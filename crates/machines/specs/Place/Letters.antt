-- The bytes that one place takes, as rows of masks. Assumes nothing.
--
--   LettersOf s takes   row c has place 1 exactly if the symbol s takes the byte c, and no other place
--   SomeLetters takes   the rows are those of some symbol that takes a byte
use Rattle.std.specs.Prelude.{◌≡◌, ℕ, ◌<◌, ◌↔◌, List, slice_index}
use Rattle.notation.specs.Expressions.{Symbol, Takes, TakesSome}
use Rattle.relations.specs.Masks.{Has}

abbrev pub LettersOf : Symbol → List ℕ → Type 0
LettersOf s takes = (c p : ℕ) → c < 256 → Has (slice_index takes c) p ↔ ((p ≡ 1) × Takes s c)

abbrev pub SomeLetters : List ℕ → Type 0
SomeLetters takes = ∥ ((s : Symbol) × TakesSome s × LettersOf s takes) ∥₁
