-- Two laws of the layout: a bundle has one reading, and every bundle that can be written has the right size. Assumes nothing.
use Rattle.std.specs.Prelude.{◌≡◌, ℕ, ◌≤◌, List, length}
use Rattle.bundle.specs.Layout.{Piece, written}
use Rattle.bundle.specs.Sizes.{RightSize}

abbrev pub OneReading : Type 0
OneReading = (p q : List ℕ) (ss ts : List Piece) → written p ss ≡ written q ts → (p ≡ q) × (ss ≡ ts)

abbrev pub Granted : Type 0
Granted = (p : List ℕ) (ss : List Piece) → length (written p ss) ≤ 32768 → RightSize (written p ss)
