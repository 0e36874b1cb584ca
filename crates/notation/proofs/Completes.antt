-- The automaton reads each well-written pattern as its expression, so a pattern has one reading. Assumes nothing.
use Rattle.std.proofs.Common.{◌≡◌, ℕ, zero, suc, true, List, [], ◌∷◌, ◌++◌, sym, refl, ap, ◌∙◌, append_assoc, append-nil}
use Rattle.std.proofs.lemmas.Bool.{cond-true}
use Rattle.notation.specs.Characters.{escapable}
use Rattle.notation.specs.Expressions.{Regex, one, byte, empty, alt}
use Rattle.notation.specs.Grammar.{Repeated, by_star, by_plus, by_opt, by_count, Atom, a_plain, an_escape, a_dot, a_class, a_group, Piece, once, repeated, Branch, nothing, followed, Alternatives, lone, also, Written, OneReading}
use Rattle.notation.specs.Automaton.{Frame, frame, Sofar, first, later, state, ready, after, escape, opened, push, closed, begin, good, outcome_of, start}
use Rattle.notation.proofs.Runs.{NoRepeat, is_repeat, settles, outcome_alive, outcome_end}
use Rattle.notation.proofs.ClassRuns.{class_runs}
use Rattle.notation.proofs.CountRuns.{counts_run}

pub escape_runs : (b : ℕ) → escapable b ≡ true → (fr : Frame) (d : ℕ) (ctx : List Frame) (w : List ℕ) → outcome_of (state ready fr d ctx) (92 ∷ (b ∷ w)) ≡ outcome_of (state (after (one (byte b))) fr d ctx) w
escape_runs b is fr d ctx w = outcome_alive _ (state escape fr d ctx) 92 _ refl ∙ outcome_alive (state escape fr d ctx) _ b w (cond-true (escapable b) _ _ is)

pub repeat_runs : {v : List ℕ} {e f : Regex} → Repeated v e f → (fr : Frame) (d : ℕ) (ctx : List Frame) (w : List ℕ) → outcome_of (state (after e) fr d ctx) (v ++ w) ≡ outcome_of (state ready (push f fr) d ctx) w
repeat_runs by_star fr d ctx w = outcome_alive _ _ 42 w refl
repeat_runs by_plus fr d ctx w = outcome_alive _ _ 43 w refl
repeat_runs by_opt fr d ctx w = outcome_alive _ _ 63 w refl
repeat_runs (by_count {e = e} c) fr d ctx w = outcome_alive _ _ 123 _ refl ∙ counts_run e fr d ctx c w

module _ (G : List ℕ → Regex → Type 0) (d : ℕ) (group_runs : (v : List ℕ) (e : Regex) → G v e → (fr : Frame) (ctx : List Frame) (w : List ℕ) → outcome_of (state ready fr d ctx) (40 ∷ (v ++ 41 ∷ w)) ≡ outcome_of (state (after e) fr d ctx) w) where
  pub atom_runs : {v : List ℕ} {e : Regex} → Atom G v e → (fr : Frame) (ctx : List Frame) (w : List ℕ) → outcome_of (state ready fr d ctx) (v ++ w) ≡ outcome_of (state (after e) fr d ctx) w
  atom_runs (a_plain {b} small is) fr ctx w = outcome_alive _ _ b w (ap (λ k. begin k b fr d ctx) is)
  atom_runs (an_escape {b} is) fr ctx w = escape_runs b is fr d ctx w
  atom_runs a_dot fr ctx w = outcome_alive _ _ 46 w refl
  atom_runs (a_class {w = v} class takes) fr ctx w = outcome_alive _ _ 91 _ refl ∙ ap (outcome_of _) (append_assoc v (93 ∷ []) w) ∙ class_runs fr d ctx class takes w
  atom_runs (a_group {w = v} {e = e} g) fr ctx w = ap (λ l. outcome_of (state ready fr d ctx) (40 ∷ l)) (append_assoc v (41 ∷ []) w) ∙ group_runs v e g fr ctx w

  piece_runs : {v : List ℕ} {e : Regex} → Piece G v e → (fr : Frame) (ctx : List Frame) (w : List ℕ) → NoRepeat w → outcome_of (state ready fr d ctx) (v ++ w) ≡ outcome_of (state ready (push e fr) d ctx) w
  piece_runs (once {e = e} a) fr ctx w h = atom_runs a fr ctx w ∙ settles e fr d ctx w h
  piece_runs (repeated {v = v} {w = u} a r) fr ctx w h = ap (outcome_of _) (append_assoc v u w) ∙ atom_runs a fr ctx (u ++ w) ∙ repeat_runs r fr d ctx w

  pub atom_no_repeat : {v : List ℕ} {e : Regex} → Atom G v e → (w : List ℕ) → NoRepeat (v ++ w)
  atom_no_repeat (a_plain small is) w = ap is_repeat is
  atom_no_repeat (an_escape is) w = refl
  atom_no_repeat a_dot w = refl
  atom_no_repeat (a_class class takes) w = refl
  atom_no_repeat (a_group g) w = refl

  piece_no_repeat : {v : List ℕ} {e : Regex} → Piece G v e → (w : List ℕ) → NoRepeat (v ++ w)
  piece_no_repeat (once a) w = atom_no_repeat a w
  piece_no_repeat (repeated {v = v} {w = u} a r) w = rw append_assoc (atom_no_repeat a (u ++ w))

  branch_runs : {v : List ℕ} {e : Regex} → Branch G v e → (s : Sofar) (ctx : List Frame) (w : List ℕ) → NoRepeat w → outcome_of (state ready (frame s empty) d ctx) (v ++ w) ≡ outcome_of (state ready (frame s e) d ctx) w
  branch_runs nothing s ctx w h = refl
  branch_runs (followed {v = v} {w = u} {e = e} b p) s ctx w h =
      ap (outcome_of _) (append_assoc v u w) ∙ branch_runs b s ctx (u ++ w) (piece_no_repeat p w) ∙ piece_runs p (frame s e) ctx w h

  alternatives_run : {v : List ℕ} {e : Regex} → Alternatives G v e → (ctx : List Frame) (w : List ℕ) → NoRepeat w
      → (fr : Frame) × (closed fr ≡ e) × (outcome_of (state ready opened d ctx) (v ++ w) ≡ outcome_of (state ready fr d ctx) w)
  alternatives_run (lone {e = e} b) ctx w h = (frame first e, refl, branch_runs b first ctx w h)
  alternatives_run (also {v = v} {w = u} {f = f} a b) ctx w h =
      let before = alternatives_run a ctx (124 ∷ (u ++ w)) refl in (
        frame (later (closed before.0)) f,
        ap (λ x. alt x f) before.1,
        ap (outcome_of _) (append_assoc v (124 ∷ u) w) ∙ before.2 ∙ outcome_alive _ _ 124 _ refl ∙ branch_runs b (later (closed before.0)) ctx w h,
      )

written_runs : (d : ℕ) (v : List ℕ) (e : Regex) → Written d v e → (ctx : List Frame) (w : List ℕ) → NoRepeat w
    → (fr : Frame) × (closed fr ≡ e) × (outcome_of (state ready opened d ctx) (v ++ w) ≡ outcome_of (state ready fr d ctx) w)
written_runs zero v e a ctx w h = alternatives_run (λ _ _. ⊥) zero (λ _ _ g. absurd g) a ctx w h
written_runs (suc d) v e a ctx w h =
    alternatives_run (Written d) (suc d)
    (λ u f g fr over rest.
    let inner = written_runs d u f g (fr ∷ over) (41 ∷ rest) refl in
    outcome_alive _ _ 40 _ refl ∙ inner.2 ∙ outcome_alive _ _ 41 rest refl ∙ ap (λ x. outcome_of (state (after x) fr (suc d) over) rest) inner.1)
    a ctx w h

pub completes : (w : List ℕ) (e : Regex) → Written 16 w e → outcome_of start w ≡ good e
completes w e is =
    let all = written_runs 16 w e is [] [] tt in
    ap (outcome_of start) (sym (append-nil w)) ∙ all.2 ∙ outcome_end _ ∙ ap good all.1

pub one_reading : OneReading
one_reading w e f p q = let a = completes w e p in let b = completes w f q in cc
