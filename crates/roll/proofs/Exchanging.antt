-- What is hopeful, lost or first lost in one set of texts is so in another that has the same texts. Assumes nothing.
use Rattle.std.proofs.Common.{◌≡◌, ℕ, ◌+◌, List, ◌++◌, take, Some, None, Option, refl, ap, ⊎_elim, arith}
use Rattle.std.proofs.ByRecursion.{All-take}
use Rattle.std.proofs.lemmas.Bool.{cases_lt}
use Rattle.folding.specs.Losing.{upto, FirstLost}
use Rattle.folding.specs.Sets.{Hopeful, Lost}
use Rattle.folding.specs.Texts.{Bytes, AllBytes}
use Rattle.folding.proofs.Texts.{bytes_append, bytes_together}
use Rattle.roll.specs.Law.{Same}

module _ (M M' : List ℕ → Type 0) (same : Same M M') where
  hopeful_same : (w : List ℕ) → Bytes w → Hopeful M w → Hopeful M' w
  hopeful_same w bytes hope = (hope.0, hope.1, (same (w ++ hope.0) (bytes_append w hope.0 bytes hope.1)).0 hope.2)

  lost_same : (w : List ℕ) → Bytes w → Lost M w → Lost M' w
  lost_same w bytes lost v more in' = lost v more ((same (w ++ v) (bytes_append w v bytes more)).1 in')

  upto_bytes : (ts : List (List ℕ)) (s : ℕ) → AllBytes ts → Bytes (upto ts s)
  upto_bytes ts s bytes = bytes_together (take (s + 1) ts) (All-take Bytes (s + 1) ts bytes)

  pub first_same : (ts : List (List ℕ)) → AllBytes ts → (c : Option ℕ) → FirstLost M ts c → FirstLost M' ts c
  first_same ts bytes None none = λ s lt. hopeful_same (upto ts s) (upto_bytes ts s bytes) (none s lt)
  first_same ts bytes (Some c) first = (first.0, lost_same (upto ts c) (upto_bytes ts c bytes) first.1, λ s lt. hopeful_same (upto ts s) (upto_bytes ts s bytes) (first.2 s lt))

clash : (M : List ℕ → Type 0) (w : List ℕ) → Lost M w → Hopeful M w → ⊥
clash M w lost hope = lost hope.0 hope.1 hope.2

-- there is one first slot, or none
pub first_one : (M : List ℕ → Type 0) (ts : List (List ℕ)) (c c' : Option ℕ) → FirstLost M ts c → FirstLost M ts c' → c ≡ c'
first_one M ts None None first first' = refl
first_one M ts None (Some c') first first' = absurd (clash M (upto ts c') first'.1 (first c' first'.0))
first_one M ts (Some c) None first first' = absurd (clash M (upto ts c) first.1 (first' c first.0))
first_one M ts (Some c) (Some c') first first' =
    ⊎_elim
    (λ lt. absurd (clash M (upto ts c) first.1 (first'.2 c lt)))
    (λ le.
    ⊎_elim
    (λ lt. absurd (clash M (upto ts c') first'.1 (first.2 c' lt)))
    (λ ge. let e : c ≡ c' = omega arith in ap Some e)
    (cases_lt c' c))
    (cases_lt c c')
