-- What the class reader has seen after each byte, and the three ways out of its loop. Assumes nothing.
use Rattle.std.proofs.Common.{◌≡◌, ℕ, ◌+◌, ◌-◌, ◌<◌, ◌≤◌, None, Some, List, [], ◌∷◌, ◌++◌, length, get_or, take, drop, sym, refl, ap, ◌∙◌, subst, ⊎_elim, append_assoc, arith, length-drop}
use Rattle.std.proofs.lemmas.List.{take_more, get_or-drop}
use Rattle.std.proofs.lemmas.Bool.{cases_lt}
use Rattle.fault.specs.declared.Fault.{Fault}
use Rattle.fault.specs.declared.Refusal.TheVariants.{BadlyWritten}
use Rattle.pattern.specs.declared.member.Progress.TheVariants.{Opened}
use Rattle.pattern.specs.declared.class.OpenClass.{OpenClass}
use Rattle.pattern.specs.declared.class.Onward.TheVariants.{Inside, Ended}
use Rattle.notation.specs.Expressions.{Symbol, these, TakesSome, one}
use Rattle.notation.specs.Grammar.{Class}
use Rattle.notation.specs.Characters.{class_kind}
use Rattle.notation.specs.ClassAutomaton.{ClassState, entered, inside, class_next}
use Rattle.notation.specs.Automaton.{Frame, state, opened, after, bad, in_class, of_class, outcome_of}
use Rattle.pattern.specs.Members.{state_of}
use Rattle.pattern.specs.Classes.{IsAt, Advances, ClassRead, ClassStops, ClassRefused}
use Rattle.notation.specs.Refusals.{refused}
use Rattle.notation.proofs.Seen.{ClassSoFar}
use Rattle.notation.proofs.ClassSeen.{class_goes, class_begun, Goes}
use Rattle.pattern.proofs.Slices.{drop_is, stops_at, stopped, split_at}
use Rattle.notation.proofs.Runs.{outcome_alive, outcome_end}
use Rattle.notation.proofs.ClassRuns.{class_runs}
use Rattle.notation.proofs.Sounds.{never}
use Rattle.notation.proofs.Faults.{unread}

-- no class ends before i
abbrev Open : List ℕ → ℕ → ℕ → Type 0
Open p at i = (n : ℕ) (s : Symbol) → n < i - at → Class (take n (drop at p)) s → TakesSome s → get_or p (at + n) 0 ≡ 93 → ⊥

pub record Far (p : List ℕ) (at i : ℕ) (class : OpenClass) : Type 0 where
  pub forward : at ≤ i
  pub symbol : Symbol
  pub is_at : IsAt class symbol
  pub seen : ClassSoFar symbol (state_of class.progress) (take (i - at) (drop at p))
  pub over : (fr : Frame) (d : ℕ) (ctx : List Frame) (w : List ℕ)
      → outcome_of (state (in_class (these []) entered) fr d ctx) (take (i - at) (drop at p) ++ w) ≡ outcome_of (state (in_class symbol (state_of class.progress)) fr d ctx) w
  pub open' : Open p at i

runs : (p : List ℕ) (at i : ℕ) (class : OpenClass) (far : Far p at i class) (fr : Frame) (d : ℕ) (ctx : List Frame)
    → outcome_of (state (in_class (these []) entered) fr d ctx) (drop at p) ≡ outcome_of (state (in_class far.symbol (state_of class.progress)) fr d ctx) (drop i p)
runs p at i class far fr d ctx = ap (outcome_of _) (split_at p at i far.forward) ∙ far.over fr d ctx (drop i p)

pub far_none : (p : List ℕ) (at : ℕ) (class : OpenClass) → IsAt class (these []) → class.progress ≡ Opened → Far p at at class
far_none p at class is_at start =
    let none_yet : 0 ≡ at - at = omega arith in
    let first : entered ≡ state_of class.progress = sym (ap state_of start) in
    record {
      forward = omega arith;
      symbol = these [];
      is_at = is_at;
      seen = subst (λ n. ClassSoFar (these []) (state_of class.progress) (take n (drop at p))) none_yet (subst (λ c. ClassSoFar (these []) c []) first class_begun);
      over = λ fr d ctx w.
          ap (λ n. outcome_of (state (in_class (these []) entered) fr d ctx) (take n (drop at p) ++ w)) (sym none_yet) ∙ ap (λ c. outcome_of (state (in_class (these []) c) fr d ctx) w) first;
      open' = λ n s lt _ _ _. omega arith;
    }

one_more : (p : List ℕ) (at i : ℕ) → at ≤ i → i < length p → take (i + 1 - at) (drop at p) ≡ take (i - at) (drop at p) ++ get_or p i 0 ∷ []
one_more p at i le lt =
    let next : i + 1 - at ≡ i - at + 1 = omega arith in
    let here : at + (i - at) ≡ i = omega arith in
    let left : i - at < length (drop at p) = simp length-drop (omega arith) in
    ap (λ n. take n (drop at p)) next ∙ take_more (drop at p) (i - at) 0 left ∙ ap (λ x. take (i - at) (drop at p) ++ x ∷ []) (get_or-drop at p (i - at) 0 ∙ ap (λ n. get_or p n 0) here)

-- no class ends before i, and a class that ended later would have been read further
class_none : (p : List ℕ) (at i : ℕ) (f : Fault) → Open p at i → ClassStops p at f → f ≡ refused BadlyWritten i
    → (n : ℕ) (s : Symbol) → Class (take n (drop at p)) s → TakesSome s → at + n < length p → get_or p (at + n) 0 ≡ 93 → ⊥
class_none p at i f none_yet stop is n s written some inside' bracket =
    let o = stop opened 0 [] in
    let back : at + n - at ≡ n = omega arith in
    let parts : drop at p ≡ take n (drop at p) ++ (93 ∷ drop (at + n + 1) p) = split_at p at (at + n) (omega arith) ∙ (λ j. take (back j) (drop at p) ++ drop_is p (at + n) 93 inside' bracket j) in
    let over : outcome_of (state (after (one s)) opened 0 []) (drop (at + n + 1) p) ≡ bad (length p - f.place) = sym (ap (outcome_of _) parts ∙ class_runs opened 0 [] written some _) ∙ o.unread in
    let few = unread _ (drop (at + n + 1) p) _ over in
    none_yet n s (omega (arith, length-drop (at + n + 1) p, o.within, ap (λ x. x.place) is)) written some bracket

module _ (p : List ℕ) (at i b : ℕ) (old : OpenClass) (lt : i < length p) (byte : get_or p i 0 ≡ b) (small : b < 256) (far : Far p at i old) where
  longer : take (i + 1 - at) (drop at p) ≡ take (i - at) (drop at p) ++ b ∷ []
  longer = one_more p at i far.forward lt ∙ ap (λ x. take (i - at) (drop at p) ++ x ∷ []) byte

  goes : Goes (class_next (class_kind b) b far.symbol (state_of old.progress)) (take (i - at) (drop at p)) b
  goes = class_goes b small far.symbol (state_of old.progress) _ far.seen

  -- a class that ends here would be read, and the automaton is still inside one
  goes_on : (s : Symbol) → Class (take (i - at) (drop at p)) s → TakesSome s → b ≡ 93 → (t : Symbol) (c : ClassState) → class_next (class_kind b) b far.symbol (state_of old.progress) ≡ inside t c → ⊥
  goes_on s written some bracket t c is =
      let ended = class_runs opened 0 [] written some [] ∙ outcome_end (state (after (one s)) opened 0 []) in
      let not_ended =
      far.over opened 0 [] (93 ∷ []) ∙ ap (λ x. outcome_of (state (in_class far.symbol (state_of old.progress)) opened 0 []) (x ∷ [])) (sym bracket)
      ∙ outcome_alive _ (state (in_class t c) opened 0 []) b [] (ap (λ n. of_class n opened 0 []) is) ∙ outcome_end (state (in_class t c) opened 0 []) in
      never _ 0 (sym not_ended ∙ ended)

  pub far_more : (new : OpenClass) → Advances old b (Some Inside) new → Far p at (i + 1) new
  far_more new advances =
      let (s, is, is_at) = advances far.symbol far.is_at in
      let le = far.forward in
      record {
        forward = omega arith;
        symbol = s;
        is_at = is_at;
        seen = subst (ClassSoFar s (state_of new.progress)) (sym longer) (subst (λ n. Goes n (take (i - at) (drop at p)) b) is goes);
        over = λ fr d ctx w.
            ap (λ l. outcome_of (state (in_class (these []) entered) fr d ctx) (l ++ w)) longer ∙ ap (outcome_of _) (append_assoc (take (i - at) (drop at p)) (b ∷ []) w)
            ∙ far.over fr d ctx (b ∷ w) ∙ outcome_alive _ (state (in_class s (state_of new.progress)) fr d ctx) b w (ap (λ n. of_class n fr d ctx) is);
        open' = λ n t small' written some bracket.
            ⊎_elim (λ (before : n < i - at). far.open' n t before written some bracket)
            (λ (ge : i - at ≤ n).
            let here : n ≡ i - at = omega arith in
            let place : at + n ≡ i = omega arith in
            goes_on t (subst (λ k. Class (take k (drop at p)) t) here written) some (sym byte ∙ ap (λ k. get_or p k 0) (sym place) ∙ bracket) s (state_of new.progress) is)
            (cases_lt n (i - at));
      }

  pub far_ended : (new : OpenClass) → Advances old b (Some Ended) new → ClassRead p at i
  far_ended new advances =
      let (s, is, _) = advances far.symbol far.is_at in
      let (bracket, written, some) = subst (λ n. Goes n (take (i - at) (drop at p)) b) is goes in
      record { forward = far.forward; within = lt; bracket = byte ∙ bracket; symbol = s; written = written; some = some }

  pub far_refused : (new : OpenClass) (f : Fault) → Advances old b None new → f ≡ refused BadlyWritten i → ClassRefused p at f
  far_refused new f advances is = record { none = class_none p at i f far.open' stop is; stops = stop }
    where
      stop : ClassStops p at f
      stop fr d ctx =
          stopped p f i _ is (omega arith)
          (runs p at i old far fr d ctx
          ∙ stops_at p i _ (omega arith) refl (λ _. ap (λ x. of_class (class_next (class_kind x) x far.symbol (state_of old.progress)) fr d ctx) byte ∙ ap (λ n. of_class n fr d ctx) (advances far.symbol far.is_at)))

-- the pattern ends here, and no class did
pub far_all : (p : List ℕ) (at i : ℕ) (old : OpenClass) (f : Fault) → Far p at i old → length p ≤ i → i ≤ length p → f ≡ refused BadlyWritten i → ClassRefused p at f
far_all p at i old f far past within is = record { none = class_none p at i f far.open' stop is; stops = stop }
  where
    stop : ClassStops p at f
    stop fr d ctx = stopped p f i _ is within (runs p at i old far fr d ctx ∙ stops_at p i _ within refl (λ lt. absurd (omega arith)))
