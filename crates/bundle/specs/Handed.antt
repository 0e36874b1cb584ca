-- What the decoder's values stand for: a pattern, strips, one strip. Assumes nothing.
--
--   piece s       the strip that is handed out as s
--   Short s       the text of s is no longer than a bundle's 16 bits can say
--   left s        the strips that are still to come
--   pattern_of b  the pattern of the bundle b
--   strips_of b   its strips, in their order
--   IsOfBytes b   the pattern and the strips of b are made of bytes
--   Reads bs b    bs has the right size, and is the pattern and the strips of b, written as a bundle
use Rattle.std.specs.Prelude.{◌≡◌, ℕ, ◌<◌, List, length}
use Rattle.std.specs.List.{AllByRecursion}
use Rattle.folding.specs.Texts.{Bytes}
use Rattle.bundle.specs.declared.decode.Bundle.{Bundle}
use Rattle.bundle.specs.declared.walk.Strip.{Strip}
use Rattle.bundle.specs.declared.walk.Strips.{Strips}
use Rattle.bundle.specs.Cuts.{cut}
use Rattle.bundle.specs.Layout.{Piece, OfBytes, written}
use Rattle.bundle.specs.Sizes.{RightSize}

abbrev pub piece : Strip → Piece
piece s = record { slot = s.slot; text = s.text.now }

abbrev pub Short : Strip → Type 0
Short s = length s.text.now < 65536

abbrev pub left : Strips → List Piece
left s = cut s.slots.now s.lengths.now s.texts.now

abbrev pub pattern_of : Bundle → List ℕ
pattern_of b = b.pattern.now

abbrev pub strips_of : Bundle → List Piece
strips_of b = left b.strips

abbrev pub IsOfBytes : Bundle → Type 0
IsOfBytes b = Bytes (pattern_of b) × AllByRecursion OfBytes (strips_of b)

abbrev pub Reads : List ℕ → Bundle → Type 0
Reads bs b = RightSize bs × (bs ≡ written (pattern_of b) (strips_of b))
