-- From each state that some text leads to, bytes can follow that end a well-written pattern. Assumes nothing.
use Rattle.std.proofs.Common.{◌≡◌, ℕ, suc, ◌+◌, ◌-◌, ◌*◌, ◌<◌, ◌≤◌, leb, List, [], ◌∷◌, ◌++◌, decimal, sym, refl, ap, ◌∙◌, subst, ⊎_elim, arith}
use Rattle.std.proofs.lemmas.Fmt.{decimal_digit}
use Rattle.std.proofs.lemmas.Bool.{cond-true, le-leb, and_from, cases_lt}
use Rattle.notation.specs.Expressions.{Symbol, Regex, one, byte, counted}
use Rattle.notation.specs.ClassAutomaton.{ClassState, inside}
use Rattle.notation.specs.Automaton.{Frame, State, state, ready, after, escape, in_class, in_count, CountState, awaiting, digits, Stage, least, most, bound, of_count, good, closed, push, outcome_of}
use Rattle.notation.proofs.Runs.{NoRepeat, settles, outcome_alive, outcome_end}
use Rattle.notation.proofs.ClassRuns.{finished_outcome}
use Rattle.notation.proofs.CountRuns.{number_runs, goes_on, decimal_two}
use Rattle.notation.proofs.Seen.{ClassSoFar, Before, Count, Seen}
use Rattle.notation.proofs.Sounds.{Bytes, bytes_append}
use Rattle.notation.proofs.ClassEndings.{class_ending}

-- some bytes end what s has begun
abbrev pub Ending : State → Type 0
Ending s = (v : List ℕ) × Bytes v × (e : Regex) × (outcome_of s v ≡ good e)

-- with no repeat first, so that they also follow an atom
closers : (fr : Frame) (d : ℕ) (ctx : List Frame) → (v : List ℕ) × NoRepeat v × Bytes v × (e : Regex) × (outcome_of (state ready fr d ctx) v ≡ good e)
closers fr d [] = ([], tt, tt, closed fr, outcome_end _)
closers fr d (o ∷ ctx) =
    let outer = closers (push (closed fr) o) (suc d) ctx in
    (41 ∷ outer.0, refl, (omega arith, outer.2), outer.3, outcome_alive _ _ 41 _ refl ∙ settles (closed fr) o (suc d) ctx outer.0 outer.1 ∙ outer.4)

ready_ends : (fr : Frame) (d : ℕ) (ctx : List Frame) → Ending (state ready fr d ctx)
ready_ends fr d ctx = let rest = closers fr d ctx in (rest.0, rest.2, rest.3, rest.4)

after_ends : (f : Regex) (fr : Frame) (d : ℕ) (ctx : List Frame) → Ending (state (after f) fr d ctx)
after_ends f fr d ctx =
    let rest = closers (push f fr) d ctx in
    (rest.0, rest.2, rest.3, settles f fr d ctx rest.0 rest.1 ∙ rest.4)

-- one byte more, and then as from the state that it leads to
one_more : (s t : State) (b : ℕ) → b < 256 → ((w : List ℕ) → outcome_of s (b ∷ w) ≡ outcome_of t w) → Ending t → Ending s
one_more s t b small is (v, bytes, e, good') = (b ∷ v, (small, bytes), e, is v ∙ good')

decimal_bytes : (n : ℕ) → n ≤ 32 → (v : List ℕ) → Bytes v → Bytes (decimal n ++ v)
decimal_bytes n top v bytes =
    ⊎_elim (λ small. subst (λ l. Bytes (l ++ v)) (sym (decimal_digit n small)) (omega arith, bytes))
    (λ two. subst (λ l. Bytes (l ++ v)) (sym (decimal_two n two (omega arith))) (omega arith, (omega arith, bytes)))
    (cases_lt n 10)

module _ (fr : Frame) (d : ℕ) (ctx : List Frame) where
  class_ends : (s : Symbol) (c : ClassState) (t : List ℕ) → ClassSoFar s c t → Ending (state (in_class s c) fr d ctx)
  class_ends s c t seen =
      let (v, bytes, f, is) = class_ending s c t seen in
      let (w, more, e, good') = after_ends (one f) fr d ctx in
      (v ++ w, bytes_append v w bytes more, e, finished_outcome fr d ctx v (inside s c) f is w ∙ good')

  enough_ends : (f : Regex) (s : Stage) (n : ℕ) → bound s ≤ n → Ending (state (in_count f (digits s n)) fr d ctx)
  enough_ends f least n le = one_more _ _ 125 (omega arith) (λ w. outcome_alive _ _ 125 w refl) (ready_ends (push (counted n n f) fr) d ctx)
  enough_ends f (most m) n le =
      one_more _ _ 125 (omega arith) (λ w. outcome_alive _ (state ready (push (counted m n f) fr) d ctx) 125 w (ap (λ c. of_count c f fr d ctx) (cond-true (leb m n) _ _ (le-leb m n le))))
      (ready_ends (push (counted m n f) fr) d ctx)

  digit_ends : (f : Regex) (s : Stage) (n k : ℕ) → k < 10 → 0 < n → bound s ≤ 10 * n + k → 10 * n + k ≤ 32 → Ending (state (in_count f (digits s n)) fr d ctx)
  digit_ends f s n k digit some low high =
      one_more _ _ (48 + k) (omega arith)
      (λ w. goes_on f fr d ctx s n k w digit (and_from _ _ (le-leb 1 n some) (and_from _ _ (le-leb (bound s) _ low) (le-leb _ 32 high))))
      (enough_ends f s (10 * n + k) low)

  bound_small : (s : Stage) (y : List ℕ) → Before s y → bound s ≤ 32
  bound_small least y before = omega arith
  bound_small (most m) y before = before.1

  digits_end : (f : Regex) (s : Stage) (n : ℕ) (y : List ℕ) → Count (digits s n) y → Ending (state (in_count f (digits s n)) fr d ctx)
  digits_end f s n y (x, is, before, high, hope) =
      let top = bound_small s x before in
      ⊎_elim (λ le. enough_ends f s n le)
      (λ more. let some = more.0 in let low = more.1 in let near = more.2 in digit_ends f s n (bound s - 10 * n) (omega arith) some (omega arith) (omega arith)) hope

  awaiting_ends : (f : Regex) (s : Stage) → bound s ≤ 32 → Ending (state (in_count f (awaiting s)) fr d ctx)
  awaiting_ends f s top =
      let (v, bytes, e, is) = enough_ends f s (bound s) (omega arith) in
      (decimal (bound s) ++ v, decimal_bytes (bound s) top v bytes, e, number_runs f fr d ctx s (bound s) v (omega arith) top ∙ is)

  count_ends : (f : Regex) (c : CountState) (y : List ℕ) → Count c y → Ending (state (in_count f c) fr d ctx)
  count_ends f (awaiting s) y seen = awaiting_ends f s (bound_small s y seen)
  count_ends f (digits s n) y seen = digits_end f s n y seen

pub ending : (s : State) (w : List ℕ) → Seen s w → Ending s
ending (state ready fr d ctx) w seen = ready_ends fr d ctx
ending (state (after f) fr d ctx) w seen = after_ends f fr d ctx
ending (state escape fr d ctx) w seen = one_more _ (state (after (one (byte 46))) fr d ctx) 46 (omega arith) (λ v. outcome_alive _ _ 46 v refl) (after_ends (one (byte 46)) fr d ctx)
ending (state (in_class s c) fr d ctx) w (o, u, t, e, around, within, (v, is, class)) = class_ends fr d ctx s c v class
ending (state (in_count f c) fr d ctx) w (o, u, t, e, around, within, (v, y, is, atom, count)) = count_ends fr d ctx f c y count
