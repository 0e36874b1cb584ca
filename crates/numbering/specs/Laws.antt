-- What holds of every numbering: there is one at most, and it has exactly the points that are reached. Assumes nothing.
use Rattle.std.specs.Prelude.{◌≡◌, ℕ, ◌<◌, ◌↔◌, List, length, Contains}
use Rattle.numbering.specs.Numbering.{Numbering}
use Rattle.numbering.specs.Reaching.{Reached, MoreThan}

pub record NumberingLaws {P : Type 0} (first : P) (next : P → ℕ → P) : Type 0 where
  pub one : (a b : List P) → Numbering first next a → Numbering first next b → a ≡ b
  pub reached : (a : List P) → Numbering first next a → (p : P) → Contains a p ↔ Reached first next p
  pub more : (a : List P) → Numbering first next a → (n : ℕ) → MoreThan n first next ↔ (n < length a)
