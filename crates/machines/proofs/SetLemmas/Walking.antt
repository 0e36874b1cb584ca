-- A text walked once from each of the sets that a map leads to, and a text walked piece by piece. Assumes nothing.
use Rattle.std.specs.Prelude.{slice_range}
use Rattle.std.proofs.Common.{◌≡◌, ℕ, ◌+◌, ◌-◌, ◌<◌, ◌≤◌, Bool, true, false, List, ◌++◌, length, set, replicate, take, get_or, sym, ap, subst, ◌∙◌, ⊎_elim, append_assoc, arith}
use Rattle.std.proofs.Math.Seq.{take-add}
use Rattle.std.proofs.lemmas.Bool.{cases_lt, cases_eq}
use Rattle.std.proofs.lemmas.List.{length-replicate, get_or-replicate, get_or_past, length-set, get_or-set_same, get_or-set_other}
use Rattle.folding.specs.Legs.{Extends}
use Rattle.folding.specs.Texts.{Bytes}
use Rattle.folding.proofs.Texts.{bytes_append, bytes_take}
use Rattle.machines.specs.declared.set.map.SetMap.{SetMap}
use Rattle.machines.specs.Set.Maps.{to}
use Rattle.starts.specs.Automata.{led}
use Rattle.starts.specs.Runs.{move_of}

-- where a number is marked as walked, `walks` has where the text leads from it
pub record Walked (n : ℕ) (moves text : List ℕ) (walks : SetMap) (walked : List Bool) : Type 0 where
  pub long : length walks.to ≡ 64
  pub marks : length walked ≡ 64
  pub right : (k : ℕ) → get_or walked k false ≡ true → k < n → to walks k ≡ led (move_of moves) text k

pub none_marked : (n k : ℕ) → get_or (replicate n false) k false ≡ false
none_marked n k =
    ⊎_elim
    (λ lt. get_or-replicate n k false false lt)
    (λ le. get_or_past (replicate n false) k false (omega (arith, length-replicate n false)))
    (cases_lt k n)

module _ (n : ℕ) (moves text : List ℕ) (walks walks' : SetMap) (walked walked' : List Bool) (from mark : ℕ) (so_far : Walked n moves text walks walked) (is_from : mark ≡ from) where
  -- one number more, which is marked then
  pub walked_more : (x : ℕ) → from < 64 → (from < n → x ≡ led (move_of moves) text from) → walks' ≡ record { to = set walks.to from x } → walked' ≡ set walked mark true → Walked n moves text walks' walked' × (get_or walked' from false ≡ true)
  walked_more x low x_is is marked =
      subst (λ b. Walked n moves text walks' b × (get_or b from false ≡ true)) (sym (marked ∙ ap (λ k. set walked k true) is_from)) (
        subst (λ m. Walked n moves text m (set walked from true)) (sym is) (record { long = length-set walks.to from x ∙ so_far.long; marks = length-set walked from true ∙ so_far.marks; right = right }),
        get_or-set_same walked from true false (let long = so_far.marks in omega arith),
      )
    where
      right : (k : ℕ) → get_or (set walked from true) k false ≡ true → k < n → get_or (set walks.to from x) k 0 ≡ led (move_of moves) text k
      right k told set_k =
          ⊎_elim
          (λ e.
          ap (λ j. get_or (set walks.to from x) j 0) e ∙ get_or-set_same walks.to from x 0 (let long = so_far.long in omega arith)
          ∙ x_is (subst (λ j. j < n) e set_k) ∙ ap (led (move_of moves) text) (sym e))
          (λ ne. get_or-set_other walks.to from k x 0 ne ∙ so_far.right k (sym (get_or-set_other walked from k true false ne) ∙ told) set_k)
          (cases_eq k from)

  -- one that was marked already
  pub walked_same : get_or walked mark false ≡ true → walks' ≡ walks → walked' ≡ walked → Walked n moves text walks' walked' × (get_or walked' from false ≡ true)
  walked_same told is marked =
      subst (λ b. Walked n moves text walks' b × (get_or b from false ≡ true)) (sym marked)
      (subst (λ m. Walked n moves text m walked) (sym is) so_far, ap (λ k. get_or walked k false) (sym is_from) ∙ told)

piece_more : (text : List ℕ) (done end : ℕ) → done ≤ end → take done text ++ slice_range text done end ≡ take end text
piece_more text done end le =
    sym (take-add done (end - done) text) ∙ ap (λ k. take k text) (let all : done + (end - done) ≡ end = omega arith in all)

-- one piece more
pub extends_more : {L : Type 0} (leg : List ℕ → L) (at map next : L) (text : List ℕ) (done end : ℕ) → Bytes text → done ≤ end → Extends leg at (take done text) map → Extends leg map (slice_range text done end) next → Extends leg at (take end text) next
extends_more leg at map next text done end bytes le before piece w fine is =
    piece (w ++ take done text) (bytes_append w (take done text) fine (bytes_take done text bytes)) (before w fine is)
    ∙ ap leg (append_assoc w (take done text) (slice_range text done end) ∙ ap (λ v. w ++ v) (piece_more text done end le))
