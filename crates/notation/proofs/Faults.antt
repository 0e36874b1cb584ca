-- Where the automaton stops in a badly written pattern, and that this is its longest beginning. Assumes nothing.
use Rattle.std.proofs.Common.{◌≡◌, ℕ, zero, suc, ◌-◌, ◌<◌, ◌≤◌, List, [], ◌∷◌, ◌++◌, length, take, sym, refl, ap, ◌∙◌, subst, append_assoc, append-nil, arith}
use Rattle.notation.specs.Expressions.{Regex}
use Rattle.notation.specs.Grammar.{WellWritten}
use Rattle.notation.specs.Beginnings.{LongestBeginning}
use Rattle.notation.specs.Automaton.{State, state, ready, after, escape, in_class, in_count, Next, dead, alive, good, bad, finish, step_of, outcome_of, start}
use Rattle.notation.proofs.Runs.{onward, outcome_is, outcome_end}
use Rattle.notation.proofs.Seen.{Seen}
use Rattle.notation.proofs.Steps.{Goes, step_goes}
use Rattle.notation.proofs.Sounds.{Bytes, never, sounds, seen_start}
use Rattle.notation.proofs.Completes.{completes}
use Rattle.notation.proofs.Endings.{ending}

same_bad : (m n : ℕ) → bad m ≡ bad n → m ≡ n
same_bad m n e = cc

finish_bad : (s : State) (n : ℕ) → finish s ≡ bad n → n ≡ 0
finish_bad (state ready fr d []) n e = never _ n (sym e)
finish_bad (state (after f) fr d []) n e = never _ n (sym e)
finish_bad (state ready fr d (x ∷ ctx)) n e = sym (same_bad 0 n e)
finish_bad (state (after f) fr d (x ∷ ctx)) n e = sym (same_bad 0 n e)
finish_bad (state escape fr d ctx) n e = sym (same_bad 0 n e)
finish_bad (state (in_class rs c) fr d ctx) n e = sym (same_bad 0 n e)
finish_bad (state (in_count f c) fr d ctx) n e = sym (same_bad 0 n e)

-- a state that the text after w leads to, with n bytes unread
abbrev Reached : List ℕ → List ℕ → ℕ → Type 0
Reached w p n = (n ≤ length p) × (t : State) × Seen t (w ++ take (length p - n) p)

stopped : (w p : List ℕ) (n k : ℕ) (s : State) → k ≡ 0 → length p - n ≡ k → n ≤ length p → Seen s w → Reached w p n
stopped w p n k s none is le seen = (le, s, subst (λ j. Seen s (w ++ take j p)) (sym (is ∙ none)) (subst (Seen s) (sym (append-nil w)) seen))

onward_stops : (n : Next) (s : State) (w p : List ℕ) (b m : ℕ) → Seen s w → Goes n (w ++ b ∷ []) → ((t : State) → Seen t (w ++ b ∷ []) → outcome_of t p ≡ bad m → Reached (w ++ b ∷ []) p m)
    → onward n p ≡ bad m → Reached w (b ∷ p) m
onward_stops dead s w p b m seen goes rest is = let all = same_bad _ m is in stopped w (b ∷ p) m 0 s refl (omega arith) (omega arith) seen
onward_stops (alive t) s w p b m seen goes rest is =
    let (le, u, on) = rest t goes is in
    let more : suc (length p) - m ≡ suc (length p - m) = omega arith in
    (omega arith, u, subst (Seen u) (append_assoc w (b ∷ []) _ ∙ ap (λ j. w ++ take j (b ∷ p)) (sym more)) on)

stops : (s : State) (w p : List ℕ) (n : ℕ) → Bytes p → Seen s w → outcome_of s p ≡ bad n → Reached w p n
stops s w [] n bytes seen is = let none = finish_bad s n (sym (outcome_end s) ∙ is) in stopped w [] n 0 s refl (omega arith) (omega arith) seen
stops s w (b ∷ p) n bytes seen is =
    onward_stops (step_of s b) s w p b n seen (step_goes s b w bytes.0 seen) (λ t goes. stops t (w ++ b ∷ []) p n bytes.1 goes) (sym (outcome_is s b p) ∙ is)

onward_unread : (n : Next) (p : List ℕ) (m : ℕ) → ((t : State) → outcome_of t p ≡ bad m → m ≤ length p) → onward n p ≡ bad m → m ≤ suc (length p)
onward_unread dead p m rest is = let all = same_bad _ m is in omega arith
onward_unread (alive t) p m rest is = let le = rest t is in omega arith

pub unread : (s : State) (p : List ℕ) (n : ℕ) → outcome_of s p ≡ bad n → n ≤ length p
unread s [] n is = let none = finish_bad s n (sym (outcome_end s) ∙ is) in omega arith
unread s (b ∷ p) n is = onward_unread (step_of s b) p n (λ t. unread t p n) (sym (outcome_is s b p) ∙ is)

-- nothing that follows more of the text than was read makes it well written
onward_shut : (n : Next) (p v : List ℕ) (m k : ℕ) (e : Regex) → ((t : State) → outcome_of t p ≡ bad m → outcome_of t (take k p ++ v) ≡ good e → ⊥) → onward n p ≡ bad m → onward n (take k p ++ v) ≡ good e → ⊥
onward_shut dead p v m k e rest is h = never e _ h
onward_shut (alive t) p v m k e rest is h = rest t is h

shut : (s : State) (p v : List ℕ) (n k : ℕ) (e : Regex) → k ≤ length p → length p - n < k → outcome_of s p ≡ bad n → outcome_of s (take k p ++ v) ≡ good e → ⊥
shut s [] v n k e le lt is h = omega arith
shut s (b ∷ p) v n zero e le lt is h = omega arith
shut s (b ∷ p) v n (suc k) e le lt is h =
    onward_shut (step_of s b) p v n k e
    (λ t at. shut t p v n k e (omega arith) (let within = unread t p n at in omega arith) at)
    (sym (outcome_is s b p) ∙ is) (sym (outcome_is s b _) ∙ h)

pub longest : (p : List ℕ) (n : ℕ) → Bytes p → outcome_of start p ≡ bad n → LongestBeginning p (length p - n)
longest p n bytes is =
    let (le, t, seen) = stops start [] p n bytes seen_start is in
    let (v, more, e, ends) = ending t _ seen in
    record {
      within = omega arith;
      begins = (v, (e, sounds t _ v e more seen ends));
      longest = λ k lt le begun. shut start p begun.0 n k begun.1.0 le lt is (completes _ _ begun.1.1);
    }

pub not_written : (p : List ℕ) (n : ℕ) → outcome_of start p ≡ bad n → WellWritten p → ⊥
not_written p n is (e, written) = never e n (sym is ∙ completes p e written)
