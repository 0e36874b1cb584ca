-- Regular expressions over any kind of symbol, and the symbols of a pattern: sets of bytes. Assumes nothing.
--
--   one s          one letter that the symbol s takes
--   counted m n e  at least m and at most n times e
--   Range          a first and a last byte, both included
--   Symbol         the bytes in some of the ranges, or all others: a plain byte is one range of one byte
--   InSome rs b    the byte b is in some of the ranges rs
--   Takes s b      the symbol s takes the byte b
--   TakesSome s    s takes at least one byte
--   Regex          what a pattern is read as
use Rattle.std.specs.Prelude.{ℕ, ◌<◌, ◌≤◌, ◌⊎◌, List, [], ◌∷◌}

pub data Expr (S : Type 0) : Type 0 where
  one : S → Expr S
  empty : Expr S
  seq : Expr S → Expr S → Expr S
  alt : Expr S → Expr S → Expr S
  star : Expr S → Expr S
  plus : Expr S → Expr S
  opt : Expr S → Expr S
  counted : ℕ → ℕ → Expr S → Expr S

abbrev pub Range : Type 0
Range = ℕ × ℕ

pub data Symbol : Type 0 where
  these others : List Range → Symbol

abbrev pub Regex : Type 0
Regex = Expr Symbol

abbrev pub byte : ℕ → Symbol
byte b = these ((b, b) ∷ [])

abbrev pub any : Symbol
any = these ((0, 255) ∷ [])

abbrev pub InSome : List Range → ℕ → Type 0
InSome [] b = ⊥
InSome (r ∷ rs) b = ((r.0 ≤ b) × (b ≤ r.1)) ⊎ InSome rs b

abbrev pub Takes : Symbol → ℕ → Type 0
Takes (these rs) b = InSome rs b
Takes (others rs) b = (b < 256) × (InSome rs b → ⊥)

abbrev pub TakesSome : Symbol → Type 0
TakesSome s = (b : ℕ) × (b < 256) × Takes s b
