-- The automaton reads each well-written counted repeat. Assumes nothing.
use Rattle.std.proofs.Common.{◌≡◌, ℕ, ◌+◌, ◌*◌, ◌/◌, ◌%◌, ◌<◌, ◌≤◌, true, List, [], ◌∷◌, ◌++◌, decimal, refl, ap, ◌∙◌, ⊎_elim, append_assoc, arith}
use Rattle.std.proofs.lemmas.Fmt.{decimal_digit, decimal_step}
use Rattle.std.proofs.lemmas.Bool.{le-leb, cond-true, and_from, or_left, or_right, cases_lt}
use Rattle.notation.specs.Expressions.{Regex, counted}
use Rattle.notation.specs.Grammar.{Counts, exactly, between}
use Rattle.notation.specs.Automaton.{Frame, State, state, ready, in_count, CountState, awaiting, digits, Stage, least, most, bound, count_can_begin, count_can_go_on, count_next, of_count, push, outcome_of}
use Rattle.notation.proofs.Chars.{digit_kind}
use Rattle.notation.proofs.Runs.{outcome_alive}

pub decimal_two : (n : ℕ) → 10 ≤ n → n < 100 → decimal n ≡ (48 + n / 10) ∷ ((48 + n % 10) ∷ [])
decimal_two n lo hi =
    decimal_step n lo (omega arith) ∙ ap (λ l. l ++ ((48 + n % 10) ∷ [])) (decimal_digit (n / 10) (omega arith))

module _ (f : Regex) (fr : Frame) (d : ℕ) (ctx : List Frame) where
  abbrev pub at : CountState → State
  at c = state (in_count f c) fr d ctx

  begins : (s : Stage) (k : ℕ) (w : List ℕ) → k < 10 → count_can_begin (bound s) k ≡ true → outcome_of (at (awaiting s)) ((48 + k) ∷ w) ≡ outcome_of (at (digits s k)) w
  begins s k w small can =
      outcome_alive _ _ (48 + k) w (ap (λ t. of_count (count_next t (awaiting s)) f fr d ctx) (digit_kind k small) ∙ ap (λ n. of_count n f fr d ctx) (cond-true _ _ _ can))

  pub goes_on : (s : Stage) (n k : ℕ) (w : List ℕ) → k < 10 → count_can_go_on (bound s) n k ≡ true → outcome_of (at (digits s n)) ((48 + k) ∷ w) ≡ outcome_of (at (digits s (10 * n + k))) w
  goes_on s n k w small can =
      outcome_alive _ _ (48 + k) w (ap (λ t. of_count (count_next t (digits s n)) f fr d ctx) (digit_kind k small) ∙ ap (λ n. of_count n f fr d ctx) (cond-true _ _ _ can))

  two_digits : (s : Stage) (n : ℕ) (w : List ℕ) → bound s ≤ n → 10 ≤ n → n ≤ 32 → outcome_of (at (awaiting s)) (decimal n ++ w) ≡ outcome_of (at (digits s n)) w
  two_digits s n w lo two hi =
      let whole : 10 * (n / 10) + n % 10 ≡ n = omega arith in
      ap (λ l. outcome_of (at (awaiting s)) (l ++ w)) (decimal_two n two (omega arith))
      ∙ begins s (n / 10) _ (omega arith) (or_right _ _ (and_from _ _ (le-leb 1 (n / 10) (omega arith)) (and_from _ _ (le-leb (n / 10) 3 (omega arith)) (le-leb (bound s) (10 * (n / 10) + 9) (omega arith)))))
      ∙ goes_on s (n / 10) (n % 10) w (omega arith) (and_from _ _ (le-leb 1 (n / 10) (omega arith)) (and_from _ _ (le-leb (bound s) _ (omega arith)) (le-leb _ 32 (omega arith))))
      ∙ ap (λ k. outcome_of (at (digits s k)) w) whole

  pub number_runs : (s : Stage) (n : ℕ) (w : List ℕ) → bound s ≤ n → n ≤ 32 → outcome_of (at (awaiting s)) (decimal n ++ w) ≡ outcome_of (at (digits s n)) w
  number_runs s n w lo hi =
      ⊎_elim (λ small. ap (λ l. outcome_of (at (awaiting s)) (l ++ w)) (decimal_digit n small) ∙ begins s n w small (or_left _ _ (le-leb (bound s) n lo)))
      (λ two. two_digits s n w lo two hi) (cases_lt n 10)

  pub counts_run : {v : List ℕ} {m n : ℕ} → Counts v m n → (w : List ℕ) → outcome_of (at (awaiting least)) (v ++ w) ≡ outcome_of (state ready (push (counted m n f) fr) d ctx) w
  counts_run (exactly {m} hi) w =
      ap (outcome_of (at (awaiting least))) (append_assoc (decimal m) (125 ∷ []) w)
      ∙ number_runs least m _ (omega arith) hi
      ∙ outcome_alive (at (digits least m)) _ 125 w refl
  counts_run (between {m} {n} le hi) w =
      ap (outcome_of (at (awaiting least))) (append_assoc (decimal m) (44 ∷ (decimal n ++ 125 ∷ [])) w)
      ∙ number_runs least m _ (omega arith) (omega arith)
      ∙ outcome_alive (at (digits least m)) (at (awaiting (most m))) 44 _ refl
      ∙ ap (outcome_of (at (awaiting (most m)))) (append_assoc (decimal n) (125 ∷ []) w)
      ∙ number_runs (most m) n _ le hi
      ∙ outcome_alive (at (digits (most m) n)) _ 125 w (ap (λ n. of_count n f fr d ctx) (cond-true _ _ _ (le-leb m n le)))
