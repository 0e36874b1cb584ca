-- How a text is handed out into lent bytes. Assumes nothing.
--
--   Laid t was n is          n is how long the text t is, and where the lent bytes have room for it, it stands at their head; else they
--                            stay as they were
--   Answered input was n is  the same of the text that is printed of an input
use Rattle.std.specs.Prelude.{◌≡◌, ℕ, ◌<◌, ◌≤◌, List, ◌++◌, drop, length}
use Rattle.bundle.specs.Checks.{Prints}

pub record Laid (t was : List ℕ) (n : ℕ) (is : List ℕ) : Type 0 where
  pub long : n ≡ length t
  pub room : length t ≤ length was → is ≡ t ++ drop (length t) was
  pub short : length was < length t → is ≡ was

abbrev pub Answered : List ℕ → List ℕ → ℕ → List ℕ → Type 0
Answered input was n is = (t : List ℕ) × Prints input t × Laid t was n is
