-- The layout of a bundle, by how one is written. Assumes nothing.
--
--   Piece        a strip: the number of its slot, and its text
--   OfBytes s    the slot is a byte, and the text is made of bytes
--   size16 n     n as two bytes, high byte first
--   written p ss the bundle of the pattern p and the strips ss
use Rattle.std.specs.Prelude.{ℕ, ◌/◌, ◌%◌, ◌<◌, List, [], ◌∷◌, ◌++◌, map, length}
use Rattle.std.specs.List.{flat_map}
use Rattle.folding.specs.Texts.{Bytes}

pub record Piece : Type 0 where
  pub slot : ℕ
  pub text : List ℕ

abbrev pub OfBytes : Piece → Type 0
OfBytes s = (s.slot < 256) × Bytes s.text

abbrev pub size16 : ℕ → List ℕ
size16 n = n / 256 ∷ n % 256 ∷ []

abbrev pub slots : List Piece → List ℕ
slots ss = map (λ s. s.slot) ss

abbrev pub lengths : List Piece → List ℕ
lengths ss = flat_map (λ s. size16 (length s.text)) ss

abbrev pub texts : List Piece → List ℕ
texts ss = flat_map (λ s. s.text) ss

abbrev pub written : List ℕ → List Piece → List ℕ
written p ss = size16 (length ss) ++ (size16 (length p) ++ (slots ss ++ (lengths ss ++ (p ++ texts ss))))
