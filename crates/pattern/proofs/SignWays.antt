-- The ways in which a sign is handed out or refused. Assumes nothing.
use Rattle.std.proofs.Common.{◌≡◌, ℕ, ◌+◌, ◌-◌, ◌<◌, Bool, true, false, eqb, List, [], ◌∷◌, ◌++◌, length, get_or, take, drop, sym, refl, ap, ◌∙◌, subst, append_assoc, arith, length-append}
use Rattle.std.proofs.lemmas.Bool.{cond-false, ne_eqb}
use Rattle.fault.specs.declared.Fault.{Fault}
use Rattle.fault.specs.declared.Refusal.TheVariants.{BadlyWritten}
use Rattle.notation.specs.Characters.{kind, plain, escapable}
use Rattle.notation.specs.Expressions.{these}
use Rattle.notation.specs.ClassAutomaton.{entered}
use Rattle.notation.specs.Automaton.{Frame, Mode, escape, in_class, in_count, awaiting, least, state, dead, alive, push, begin, repeat_or, step, outcome_of}
use Rattle.notation.specs.Refusals.{Stops, refused}
use Rattle.pattern.specs.Signs.{Waits, SignStops}
use Rattle.pattern.specs.Classes.{ClassRead, ClassStops}
use Rattle.pattern.specs.Repeats.{CountsRead, CountsStop}
use Rattle.notation.proofs.Runs.{is_repeat, settled}
use Rattle.pattern.proofs.Waiting.{before_atom, after_atom, waiting}
use Rattle.pattern.proofs.Slices.{drop_is, moves, stops_inside, stops_at, stopped, split_at, slice_part, slice_is, part_length}

-- a byte that is none of the twelve special characters
pub not_special : (b : ℕ) → (b ≡ 124 → ⊥) → (b ≡ 42 → ⊥) → (b ≡ 43 → ⊥) → (b ≡ 63 → ⊥) → (b ≡ 40 → ⊥) → (b ≡ 41 → ⊥) → (b ≡ 91 → ⊥) → (b ≡ 93 → ⊥) → (b ≡ 123 → ⊥) → (b ≡ 125 → ⊥) → (b ≡ 46 → ⊥) → (b ≡ 92 → ⊥) → kind b ≡ plain
not_special b n1 n2 n3 n4 n5 n6 n7 n8 n9 n10 n11 n12 =
    cond-false (eqb b 124) _ _ (ne_eqb b 124 n1)
    ∙ cond-false (eqb b 42) _ _ (ne_eqb b 42 n2)
    ∙ cond-false (eqb b 43) _ _ (ne_eqb b 43 n3)
    ∙ cond-false (eqb b 63) _ _ (ne_eqb b 63 n4)
    ∙ cond-false (eqb b 40) _ _ (ne_eqb b 40 n5)
    ∙ cond-false (eqb b 41) _ _ (ne_eqb b 41 n6)
    ∙ cond-false (eqb b 91) _ _ (ne_eqb b 91 n7)
    ∙ cond-false (eqb b 93) _ _ (ne_eqb b 93 n8)
    ∙ cond-false (eqb b 123) _ _ (ne_eqb b 123 n9)
    ∙ cond-false (eqb b 125) _ _ (ne_eqb b 125 n10)
    ∙ cond-false (eqb b 46) _ _ (ne_eqb b 46 n11)
    ∙ cond-false (eqb b 92) _ _ (ne_eqb b 92 n12)

module _ (p : List ℕ) (at : ℕ) (lt : at < length p) where
  pub one_byte : (b : ℕ) → get_or p at 0 ≡ b → take (at + 1 - at) (drop at p) ≡ b ∷ []
  one_byte b is = slice_is p at (at + 1) (b ∷ []) _ (drop_is p at b lt is) refl

  pub one_part : drop at p ≡ take (at + 1 - at) (drop at p) ++ drop (at + length (take (at + 1 - at) (drop at p))) p
  one_part = slice_part p at (at + 1) (omega arith) (omega arith)

  -- the byte leads nowhere
  pub dies : (repeatable : Bool) (f : Fault) → ((m : Mode) → Waits repeatable m → (fr : Frame) (d : ℕ) (ctx : List Frame) → step m (get_or p at 0) fr d ctx ≡ dead) → f ≡ refused BadlyWritten at → SignStops p at repeatable f
  dies repeatable f dead_end is m waits fr d ctx = stopped p f at _ is (omega arith) (stops_inside p at _ lt (dead_end m waits fr d ctx))

  -- the byte begins a sign that is not a repeat, and the sign stops
  pub begun : (repeatable : Bool) (f : Fault) (b : ℕ) (next : Mode) → get_or p at 0 ≡ b → is_repeat (kind b) ≡ false → ((fr : Frame) (d : ℕ) (ctx : List Frame) → begin (kind b) b fr d ctx ≡ alive (state next fr d ctx))
      → ((fr : Frame) (d : ℕ) (ctx : List Frame) → Stops p f (outcome_of (state next fr d ctx) (drop (at + 1) p))) → SignStops p at repeatable f
  begun repeatable f b next is no_repeat leads stop =
      waiting (λ m. (fr : Frame) (d : ℕ) (ctx : List Frame) → Stops p f (outcome_of (state m fr d ctx) (drop at p)))
      (λ fr d ctx. subst (Stops p f) (sym (moves p at b _ (state next fr d ctx) lt is (leads fr d ctx))) (stop fr d ctx))
      (λ e fr d ctx. subst (Stops p f) (sym (moves p at b _ (state next (push e fr) d ctx) lt is (settled (kind b) b e fr d ctx no_repeat ∙ leads (push e fr) d ctx))) (stop (push e fr) d ctx))
      repeatable

  pub class_stops : (repeatable : Bool) (f : Fault) → get_or p at 0 ≡ 91 → ClassStops p (at + 1) f → SignStops p at repeatable f
  class_stops repeatable f is stop = begun repeatable f 91 (in_class (these []) entered) is refl (λ fr d ctx. refl) stop

  pub count_stops : (f : Fault) → get_or p at 0 ≡ 123 → CountsStop p (at + 1) f → SignStops p at true f
  count_stops f is stop =
      after_atom (λ m. (fr : Frame) (d : ℕ) (ctx : List Frame) → Stops p f (outcome_of (state m fr d ctx) (drop at p)))
      (λ e fr d ctx. subst (Stops p f) (sym (moves p at 123 _ (state (in_count e (awaiting least)) fr d ctx) lt is refl)) (stop e fr d ctx))

  -- a repeat with nothing to repeat
  pub nothing_to_repeat : (f : Fault) (b : ℕ) → get_or p at 0 ≡ b → ((fr : Frame) (d : ℕ) (ctx : List Frame) → begin (kind b) b fr d ctx ≡ dead) → f ≡ refused BadlyWritten at → SignStops p at false f
  nothing_to_repeat f b byte dead_end is =
      before_atom (λ m. (fr : Frame) (d : ℕ) (ctx : List Frame) → Stops p f (outcome_of (state m fr d ctx) (drop at p)))
      (λ fr d ctx. stopped p f at _ is (omega arith) (stops_inside p at _ lt (ap (λ x. begin (kind x) x fr d ctx) byte ∙ dead_end fr d ctx)))

  -- a byte that never stands outside a class by itself
  pub never_here : (repeatable : Bool) (f : Fault) (b : ℕ) → get_or p at 0 ≡ b → is_repeat (kind b) ≡ false → ((fr : Frame) (d : ℕ) (ctx : List Frame) → begin (kind b) b fr d ctx ≡ dead) → f ≡ refused BadlyWritten at → SignStops p at repeatable f
  never_here repeatable f b is no_repeat dead_end fault =
      dies repeatable f
      (waiting (λ m. (fr : Frame) (d : ℕ) (ctx : List Frame) → step m (get_or p at 0) fr d ctx ≡ dead)
      (λ fr d ctx. ap (λ x. begin (kind x) x fr d ctx) is ∙ dead_end fr d ctx)
      (λ e fr d ctx. ap (λ x. repeat_or (kind x) x e fr d ctx) is ∙ settled (kind b) b e fr d ctx no_repeat ∙ dead_end (push e fr) d ctx)
      repeatable)
      fault

  pub escape_stops : (repeatable : Bool) (f : Fault) → get_or p at 0 ≡ 92 → (at + 1 < length p → escapable (get_or p (at + 1) 0) ≡ false) → f ≡ refused BadlyWritten (at + 1) → SignStops p at repeatable f
  escape_stops repeatable f is cannot fault =
      begun repeatable f 92 escape is refl (λ fr d ctx. refl)
      (λ fr d ctx. stopped p f (at + 1) _ fault (omega arith) (stops_at p (at + 1) _ (omega arith) refl (λ inside. cond-false (escapable (get_or p (at + 1) 0)) _ _ (cannot inside))))

  pub counted_is : (m n end : ℕ) → get_or p at 0 ≡ 123 → (read : CountsRead p (at + 1) m n end) → take (end - at) (drop at p) ≡ 123 ∷ read.words
  counted_is m n end is read =
      let long = read.long in
      slice_is p at end (123 ∷ read.words) _ (drop_is p at 123 lt is ∙ ap (λ l. 123 ∷ l) read.part) (omega arith)

  pub class_part : (end : ℕ) → get_or p at 0 ≡ 91 → ClassRead p (at + 1) end
      → (inner : List ℕ) → inner ≡ take (end - (at + 1)) (drop (at + 1) p) → drop at p ≡ 91 ∷ (inner ++ 93 ∷ []) ++ drop (at + length (91 ∷ (inner ++ 93 ∷ []))) p
  class_part end is read inner same =
      let le = read.forward in
      let within = read.within in
      let parts : drop (at + 1) p ≡ inner ++ (93 ∷ drop (end + 1) p) = split_at p (at + 1) end le ∙ (λ i. sym same i ++ drop_is p end 93 within read.bracket i) in
      let whole : drop at p ≡ (91 ∷ (inner ++ 93 ∷ [])) ++ drop (end + 1) p = drop_is p at 91 lt is ∙ ap (λ l. 91 ∷ l) (parts ∙ sym (append_assoc inner (93 ∷ []) _)) in
      let long : at + length (91 ∷ (inner ++ 93 ∷ [])) ≡ end + 1 = omega (arith, length-append inner (93 ∷ []), ap length same, part_length p (at + 1) end le (omega arith)) in
      whole ∙ ap (λ n. (91 ∷ (inner ++ 93 ∷ [])) ++ drop n p) (sym long)
