-- Maps that are filled entry by entry. Assumes nothing.
use Rattle.std.proofs.Common.{◌≡◌, ℕ, ◌+◌, ◌<◌, List, cond, ltb, length, min, replicate, get_or, slice_set, length-set, sym, ◌∙◌, ⊎_elim, arith}
use Rattle.std.proofs.lemmas.Bool.{cases_eq, cases_lt, lt-ltb, le-ltb, cond-true, cond-false}
use Rattle.std.proofs.lemmas.List.{length-replicate, get_or-replicate, get_or-set_same, get_or-set_other}
use Rattle.std.proofs.lemmas.List.FromFn.{fill_by_all}
use Rattle.starts.specs.Maps.{map_of, then_byte, to}
use Rattle.starts.specs.declared.statemap.StateMap.{StateMap}

-- the first n entries are those of f, and the others are 0
pub record Filled (f : ℕ → ℕ) (n : ℕ) (to : List ℕ) : Type 0 where
  pub long : length to ≡ 64
  pub at : (k : ℕ) → k < 64 → get_or to k 0 ≡ cond (ltb k n) (f k) 0

pub filled_none : (f : ℕ → ℕ) → Filled f 0 (replicate 64 0)
filled_none f = record {
  long = length-replicate {A = ℕ} 64 0;
  at = λ k lt. get_or-replicate 64 k 0 0 lt ∙ sym (cond-false _ _ _ (le-ltb k 0 (omega arith)));
}

pub filled_more : (f : ℕ → ℕ) (n : ℕ) (to : List ℕ) (y : ℕ) → n < 64 → Filled f n to → y ≡ f n → Filled f (n + 1) (slice_set to n y)
filled_more f n to y low so_far is = record {
  long = length-set to n y ∙ so_far.long;
  at = λ k lt.
      ⊎_elim
      (λ e. rw e (get_or-set_same to n y 0 (let long = so_far.long in omega arith) ∙ is ∙ sym (cond-true _ _ _ (lt-ltb n (n + 1) (omega arith)))))
      (λ ne.
      get_or-set_other to n k y 0 ne ∙ so_far.at k lt
      ∙ ⊎_elim
      (λ below. cond-true _ _ _ (lt-ltb k n below) ∙ sym (cond-true _ _ _ (lt-ltb k (n + 1) (omega arith))))
      (λ above. cond-false _ _ _ (le-ltb k n above) ∙ sym (cond-false _ _ _ (le-ltb k (n + 1) (omega arith))))
      (cases_lt k n))
      (cases_eq k n);
}

pub filled_all : (f : ℕ → ℕ) (n upto : ℕ) (to : List ℕ) → Filled f upto to → upto ≡ min n 64 → ◌≡◌ {A = StateMap} (record { to = to }) (map_of n f)
unfolding map_of
filled_all f n upto to filled all i = record {
  to = fill_by_all (λ s. cond (ltb s n) (f s) 0) to 64 0 filled.long
      (λ k lt.
      filled.at k lt
      ∙ ⊎_elim
      (λ below. cond-true _ _ _ (lt-ltb k upto (omega arith)) ∙ sym (cond-true _ _ _ (lt-ltb k n below)))
      (λ above. cond-false _ _ _ (le-ltb k upto (omega arith)) ∙ sym (cond-false _ _ _ (le-ltb k n above)))
      (cases_lt k n)) i;
}

-- bytes that lead alike from each state make one map of each
pub same_moved : (n : ℕ) (moved : ℕ → ℕ → ℕ) (b c : ℕ) → ((k : ℕ) → k < 64 → moved k b ≡ moved k c) → (m : StateMap) → then_byte n moved m b ≡ then_byte n moved m c
same_moved n moved b c same m i = map_of n (λ s. same (to m s) (omega arith) i)
