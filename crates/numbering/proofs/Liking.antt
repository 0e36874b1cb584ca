-- To one byte more the first that is like it. Assumes nothing.
use Rattle.std.proofs.Common.{◌≡◌, ℕ, ◌+◌, ◌<◌, ◌≤◌, List, length, slice_set, subst, sym, ⊎_elim, arith}
use Rattle.std.proofs.lemmas.Bool.{cases_eq}
use Rattle.std.proofs.lemmas.List.{get_or-set_same, get_or-set_other}
use Rattle.numbering.specs.Searching.{Likes}

pub likes_more : {P : Type 0} (next : P → ℕ → P) (likes : List ℕ) (c b : ℕ) → c < length likes → Likes next c likes → b ≤ c → ((p : P) → next p b ≡ next p c) → Likes next (c + 1) (slice_set likes c b)
likes_more {P} next likes c b lt below before same k within =
    ⊎_elim
    (λ is. rw is (subst (Like c) (sym (get_or-set_same likes c b 0 lt)) (before, same)))
    (λ apart. subst (Like k) (sym (get_or-set_other likes c k b 0 apart)) (below k (omega arith)))
    (cases_eq k c)
  where
    Like : ℕ → ℕ → Type 0
    Like k a = (a ≤ k) × ((p : P) → next p a ≡ next p k)
