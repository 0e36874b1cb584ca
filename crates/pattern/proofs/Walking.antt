-- One step of the recursive reader, sign by sign, and what its loop keeps. Assumes nothing.
use Rattle.std.proofs.Common.{◌≡◌, ℕ, ◌+◌, ◌-◌, ◌<◌, ◌≤◌, Bool, true, false, leb, List, ◌∷◌, ◌++◌, length, drop, sym, refl, ap, ◌∙◌, subst, ⊎_elim, arith, length-append, length-drop}
use Rattle.std.proofs.lemmas.List.{drop_all, drop_more}
use Rattle.std.proofs.lemmas.Bool.{cases_lt, leb-false}
use Rattle.fault.specs.declared.Fault.{Fault}
use Rattle.notation.specs.Expressions.{Regex, empty}
use Rattle.notation.specs.Grammar.{Repeated}
use Rattle.notation.specs.Automaton.{Frame, frame, later, Mode, ready, after, state, push, opened, closed, outcome_of}
use Rattle.pattern.specs.Drafts.{settled, AtomKept, BarKept, RepeatKept, ClosedKept}
use Rattle.notation.specs.Refusals.{Stops}
use Rattle.pattern.specs.Signs.{SignStops, Waits}
use Rattle.pattern.specs.Walks.{Halts, LeadsOn, StepStops, GroupStops, AlternativesRead, AlternativesStop}
use Rattle.notation.proofs.Runs.{NoRepeat, settles, outcome_alive}
use Rattle.pattern.proofs.Waiting.{after_atom, waiting}
use Rattle.notation.proofs.Completes.{repeat_runs}

-- the atom in hand joins its branch
settle_runs : (r : Bool) (m : Mode) → Waits r m → (fr : Frame) (d : ℕ) (ctx : List Frame) (w : List ℕ) → NoRepeat w → outcome_of (state m fr d ctx) w ≡ outcome_of (state ready (settled m fr) d ctx) w
settle_runs =
    waiting (λ m. (fr : Frame) (d : ℕ) (ctx : List Frame) (w : List ℕ) → NoRepeat w → outcome_of (state m fr d ctx) w ≡ outcome_of (state ready (settled m fr) d ctx) w)
    (λ fr d ctx w free. refl) (λ f fr d ctx w free. settles f fr d ctx w free)

module _ (p : List ℕ) (at : ℕ) where
  pub part_within : (u : List ℕ) → 0 < length u → drop at p ≡ u ++ drop (at + length u) p → at + length u ≤ length p
  part_within u some is =
      let long : length p - at ≡ length u + (length p - (at + length u)) = sym (length-drop at p) ∙ ap length is ∙ length-append u _ ∙ ap (λ n. length u + n) (length-drop (at + length u) p) in
      omega arith

  pub inside : false ≡ leb (length p) at → at < length p
  inside is = leb-false (length p) at (sym is)

  halts_free : Halts p at → NoRepeat (drop at p)
  halts_free halts =
      ⊎_elim (λ lt. subst NoRepeat (sym (drop_more p at 0 lt ∙ ap (λ b. b ∷ drop (at + 1) p) (halts lt))) refl) (λ ge. subst NoRepeat (sym (drop_all at p ge)) tt) (cases_lt at (length p))

  -- r says whether a repeat may stand here, and K is what is kept
  module _ (d : ℕ) (r : Bool) (K : Mode → Frame → Type 0) (waits : (m : Mode) (fr : Frame) → K m fr → Waits r m) where
    pub sign_stops : (f : Fault) → SignStops p at r f → StepStops p at d K f
    sign_stops f stop m fr keeps ctx = stop m (waits m fr keeps) fr d ctx

    pub group_stops : (f : Fault) (w : List ℕ) → drop at p ≡ 40 ∷ w → GroupStops p at d f → StepStops p at d K f
    group_stops f w is stop m fr keeps ctx =
        subst (Stops p f) (sym (settle_runs r m (waits m fr keeps) fr d ctx _ (subst NoRepeat (sym is) refl))) (stop (settled m fr) ctx)

    module _ (end : ℕ) (K' : Mode → Frame → Type 0) where
      -- an atom, from whatever came before it
      pub atom_leads : (e : Regex) → NoRepeat (drop at p)
          → ((fr : Frame) (ctx : List Frame) → outcome_of (state ready fr d ctx) (drop at p) ≡ outcome_of (state (after e) fr d ctx) (drop end p))
          → AtomKept K K' e → (m : Mode) (fr : Frame) → K m fr → LeadsOn p at d end m fr K'
      atom_leads e free runs told m fr keeps = record {
        mode = after e;
        frame = settled m fr;
        keeps = told m fr keeps;
        runs = λ ctx. settle_runs r m (waits m fr keeps) fr d ctx _ free ∙ runs (settled m fr) ctx;
      }

      pub bar_leads : drop at p ≡ 124 ∷ drop end p → BarKept K K' → (m : Mode) (fr : Frame) → K m fr → LeadsOn p at d end m fr K'
      bar_leads is told m fr keeps = record {
        mode = ready;
        frame = frame (later (closed (settled m fr))) empty;
        keeps = told m fr keeps;
        runs = λ ctx. settle_runs r m (waits m fr keeps) fr d ctx _ (subst NoRepeat (sym is) refl) ∙ ap (outcome_of _) is ∙ outcome_alive _ _ 124 _ refl;
      }

      -- a repeat of the atom in hand
      pub repeat_leads : (u : List ℕ) (g : Regex → Regex) → ((e : Regex) → Repeated u e (g e)) → r ≡ true → drop at p ≡ u ++ drop end p
          → RepeatKept K K' g → (m : Mode) (fr : Frame) → K m fr → LeadsOn p at d end m fr K'
      repeat_leads u g written again is told m fr keeps =
          after_atom (λ m. K m fr → LeadsOn p at d end m fr K')
          (λ f kept.
          record {
            mode = ready;
            frame = push (g f) fr;
            keeps = told f fr kept;
            runs = λ ctx. ap (outcome_of _) is ∙ repeat_runs (written f) fr d ctx (drop end p);
          })
          m (subst (λ b. Waits b m) again (waits m fr keeps)) keeps

module _ (p : List ℕ) (from d at : ℕ) (K : Mode → Frame → Type 0) where
  pub walk_stops : (f : Fault) → LeadsOn p from d at ready opened K → StepStops p at d K f → AlternativesStop p from d f
  walk_stops f walk stop ctx = subst (Stops p f) (sym (walk.runs ctx)) (stop walk.mode walk.frame walk.keeps ctx)

  pub walk_all : (r : Bool) → ((m : Mode) (fr : Frame) → K m fr → Waits r m) → (E : Regex → Type 0) → from ≤ at → at ≤ length p → LeadsOn p from d at ready opened K → Halts p at → ClosedKept K E → AlternativesRead p from d at E
  walk_all r waits E forward within walk halts told = record {
    forward = forward;
    within = within;
    halts = halts;
    frame = settled walk.mode walk.frame;
    value = told walk.mode walk.frame walk.keeps;
    runs = λ ctx. walk.runs ctx ∙ settle_runs r walk.mode (waits walk.mode walk.frame walk.keeps) walk.frame d ctx _ (halts_free p at halts);
  }
