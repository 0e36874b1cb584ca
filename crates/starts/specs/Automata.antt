-- Where a text leads by single moves. Assumes nothing.
--
--   led moved w s    the number of the state that the text w leads to from s, where a byte c leads from s to `moved s c`
use Rattle.std.specs.Prelude.{ℕ, List, [], ◌∷◌}

unfoldable pub led : (ℕ → ℕ → ℕ) → List ℕ → ℕ → ℕ
led moved [] s = s
led moved (c ∷ w) s = led moved w (moved s c)
