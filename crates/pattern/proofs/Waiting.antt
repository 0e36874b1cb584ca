-- The two modes in which a sign is awaited. Assumes nothing.
use Rattle.std.proofs.Common.{Bool, true, false, sym, subst}
use Rattle.notation.specs.Expressions.{Regex}
use Rattle.notation.specs.Automaton.{Mode, ready, after}
use Rattle.pattern.specs.Signs.{Waits}

module _ (P : Mode → Type 0) where
  pub before_atom : P ready → (m : Mode) → Waits false m → P m
  before_atom held m is = subst P (sym is) held

  pub after_atom : ((f : Regex) → P (after f)) → (m : Mode) → Waits true m → P m
  after_atom held m (f, is) = subst P (sym is) (held f)

pub waiting : (P : Mode → Type 0) → P ready → ((f : Regex) → P (after f)) → (r : Bool) (m : Mode) → Waits r m → P m
waiting P first later false m is = before_atom P first m is
waiting P first later true m is = after_atom P later m is
