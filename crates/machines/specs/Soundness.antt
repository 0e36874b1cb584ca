-- What every expression that is read from a pattern satisfies. Assumes nothing.
--
--   Sound ok e  each symbol of e satisfies `ok`, and no count asks for more than it allows
--   Sane e      each symbol of e takes some byte, and no count asks for more than it allows
use Rattle.std.specs.Prelude.{◌≤◌}
use Rattle.notation.specs.Expressions.{Expr, one, empty, seq, alt, star, plus, opt, counted, TakesSome, Regex}

abbrev pub Sound : {S : Type 0} → (S → Type 0) → Expr S → Type 0
Sound ok (one s) = ok s
Sound ok empty = Unit {0}
Sound ok (seq e f) = Sound ok e × Sound ok f
Sound ok (alt e f) = Sound ok e × Sound ok f
Sound ok (star e) = Sound ok e
Sound ok (plus e) = Sound ok e
Sound ok (opt e) = Sound ok e
Sound ok (counted m n e) = (m ≤ n) × Sound ok e

abbrev pub Sane : Regex → Type 0
Sane e = Sound TakesSome e
