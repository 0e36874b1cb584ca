-- How many places an expression has once the copies that `+` and counts stand for are written out. Assumes nothing.
use Rattle.std.specs.Prelude.{ℕ, ◌+◌, ◌*◌}
use Rattle.notation.specs.Expressions.{Expr, one, empty, seq, alt, star, plus, opt, counted}

abbrev pub places : {S : Type 0} → Expr S → ℕ
places (one s) = 1
places empty = 0
places (seq e f) = places e + places f
places (alt e f) = places e + places f
places (star e) = places e
places (plus e) = 2 * places e
places (opt e) = places e
places (counted m n e) = n * places e
