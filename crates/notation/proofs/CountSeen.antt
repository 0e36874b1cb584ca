-- A byte that goes on in a counted repeat adds to the text that was read of it. Assumes nothing.
use Rattle.std.proofs.Common.{◌≡◌, ℕ, ◌+◌, ◌*◌, ◌/◌, ◌%◌, ◌<◌, true, leb, List, [], ◌∷◌, ◌++◌, decimal, sym, ap, ◌∙◌, subst, inl, inr, ⊎_elim, append_assoc, arith}
use Rattle.std.proofs.lemmas.Fmt.{decimal_digit, decimal_step}
use Rattle.std.proofs.lemmas.Bool.{cond_both, leb-true, and_parts, or_cases}
use Rattle.notation.specs.Grammar.{Counts, exactly, between}
use Rattle.notation.specs.Automaton.{CountState, CountKind, awaiting, digits, digit, comma, ended, other, Stage, least, most, bound, count_can_begin, count_can_go_on, count_kind, count_next, CountNext, no_count, counting, counts}
use Rattle.notation.proofs.Chars.{InCount, in_count_lem}
use Rattle.notation.proofs.Seen.{Before, Hopeful, Count}

abbrev pub Goes : CountNext → List ℕ → ℕ → Type 0
Goes no_count y b = Unit {0}
Goes (counting c) y b = Count c (y ++ b ∷ [])
Goes (counts m n) y b = Counts (y ++ b ∷ []) m n

hopeful : (m k : ℕ) → count_can_begin m k ≡ true → Hopeful m k
hopeful m k e =
    ⊎_elim (λ h. inl (leb-true m k h))
    (λ h. let p = and_parts _ _ h in let q = and_parts _ _ p.1 in inr (leb-true 1 k p.0, leb-true k 3 q.0, leb-true m _ q.1))
    (or_cases _ _ e)

decimal_more : (n k : ℕ) → 0 < n → n < 10 → k < 10 → decimal (10 * n + k) ≡ decimal n ++ (48 + k) ∷ []
decimal_more n k some small last =
    let q : (10 * n + k) / 10 ≡ n = omega arith in
    let r : (10 * n + k) % 10 ≡ k = omega arith in
    decimal_step (10 * n + k) (omega arith) (omega arith) ∙ (λ i. decimal (q i) ++ (48 + r i) ∷ [])

first_digit : (s : Stage) (y : List ℕ) (k : ℕ) → k < 10 → Before s y → Hopeful (bound s) k → Count (digits s k) (y ++ (48 + k) ∷ [])
first_digit s y k small before can = (y, ap (λ l. y ++ l) (sym (decimal_digit k small)), before, omega arith, can)

next_digit : (s : Stage) (n k : ℕ) (y : List ℕ) → k < 10 → Count (digits s n) y → count_can_go_on (bound s) n k ≡ true → Count (digits s (10 * n + k)) (y ++ (48 + k) ∷ [])
next_digit s n k y small (x, is, before, hi, hope) e =
    let p = and_parts _ _ e in
    let q = and_parts _ _ p.1 in
    let some = leb-true 1 n p.0 in
    let low = leb-true (bound s) _ q.0 in
    let top = leb-true _ 32 q.1 in
    (x, ap (λ l. l ++ (48 + k) ∷ []) is ∙ append_assoc x _ _ ∙ ap (λ l. x ++ l) (sym (decimal_more n k some (omega arith) small)), before, top, inl low)

goes : (b : ℕ) (k : CountKind) → InCount k b → (c : CountState) (y : List ℕ) → Count c y → Goes (count_next k c) y b
goes b (digit k) (is, small) (awaiting s) y seen =
    cond_both (count_can_begin (bound s) k) _ _ (λ n. Goes n y b)
    (λ e. subst (λ x. Count (digits s k) (y ++ x ∷ [])) (sym is) (first_digit s y k small seen (hopeful (bound s) k e))) (λ _. tt)
goes b comma is (awaiting s) y seen = tt
goes b ended is (awaiting s) y seen = tt
goes b other is (awaiting s) y seen = tt
goes b (digit k) (is, small) (digits s n) y seen =
    cond_both (count_can_go_on (bound s) n k) _ _ (λ m. Goes m y b)
    (λ e. subst (λ x. Count (digits s (10 * n + k)) (y ++ x ∷ [])) (sym is) (next_digit s n k y small seen e)) (λ _. tt)
goes b comma is (digits least n) y (x, whole, before, hi, hope) = ((λ i. (whole ∙ ap (λ l. l ++ decimal n) before) i ++ is i ∷ []), hi)
goes b comma is (digits (most m) n) y seen = tt
goes b ended is (digits least n) y (x, whole, before, hi, hope) = subst (λ l. Counts l n n) (sym (λ i. (whole ∙ ap (λ l. l ++ decimal n) before) i ++ is i ∷ [])) (exactly hi)
goes b ended is (digits (most m) n) y (x, whole, before, hi, hope) =
    cond_both (leb m n) _ _ (λ c. Goes c y b)
    (λ e. subst (λ l. Counts l m n) (sym ((λ i. (whole ∙ ap (λ l. l ++ decimal n) before.0) i ++ is i ∷ []) ∙ append_assoc (decimal m ++ 44 ∷ []) (decimal n) (125 ∷ []) ∙ append_assoc (decimal m) (44 ∷ []) (decimal n ++ 125 ∷ []))) (between (leb-true m n e) hi)) (λ _. tt)
goes b other is (digits s n) y seen = tt

pub count_goes : (b : ℕ) (c : CountState) (y : List ℕ) → Count c y → Goes (count_next (count_kind b) c) y b
count_goes b c y seen = goes b (count_kind b) (in_count_lem b) c y seen
