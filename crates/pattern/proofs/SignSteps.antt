-- The step of the recursive reader over each sign that was handed out. Assumes nothing.
use Rattle.std.proofs.Common.{◌≡◌, ℕ, ◌+◌, ◌<◌, Bool, true, false, List, [], ◌∷◌, ◌++◌, length, drop, sym, refl, ap, ◌∙◌, subst, arith, Bor}
use Rattle.pattern.specs.declared.sign.Sign.{Sign}
use Rattle.pattern.specs.declared.sign.Sign.TheVariants.{Plain, Escape, Any, Class, Bar, Star, Plus, Question, Counted, Open, Close, End}
use Rattle.notation.specs.Expressions.{Regex, empty}
use Rattle.notation.specs.Grammar.{Atom, a_plain, an_escape, a_dot, a_class, a_group, Repeated, by_star, by_plus, by_opt, by_count}
use Rattle.notation.specs.Automaton.{Frame, Mode, outcome_of}
use Rattle.pattern.specs.Drafts.{AtomKept, Grows, by_atom, by_bar, by_repeat}
use Rattle.pattern.specs.Signs.{text, is_end, is_inner, Formed, Handed, Waits}
use Rattle.pattern.specs.Walks.{LeadsOn, Steps, GroupRead}
use Rattle.notation.proofs.Runs.{NoRepeat}
use Rattle.notation.proofs.Completes.{atom_runs, atom_no_repeat}
use Rattle.pattern.proofs.Walking.{inside, part_within, atom_leads, bar_leads, repeat_leads}

-- a parenthesis that was handed out
pub begun : (p : List ℕ) (at : ℕ) (r : Bool) (s s' : Sign) (b : ℕ) → Handed p at r s → s ≡ s' → false ≡ is_end s' → (Formed r s' → text s' ≡ b ∷ []) → (at < length p) × (drop at p ≡ b ∷ drop (at + length (text s)) p)
begun p at r s s' b handed is not_end told =
    (inside p at (not_end ∙ sym (ap is_end is) ∙ handed.ended), handed.part ∙ ap (λ l. l ++ drop (at + length (text s)) p) (ap text is ∙ told (subst (Formed r) is handed.formed)))

pub inner : (s : Sign) → ((t : Bor (List ℕ)) → s ≡ Open t → ⊥) → ((t : Bor (List ℕ)) → s ≡ Close t → ⊥) → (s ≡ End → ⊥) → is_inner s ≡ true
inner (Plain t) no_open no_close no_end = refl
inner (Escape t) no_open no_close no_end = refl
inner (Any t) no_open no_close no_end = refl
inner (Class t) no_open no_close no_end = refl
inner (Bar t) no_open no_close no_end = refl
inner (Star t) no_open no_close no_end = refl
inner (Plus t) no_open no_close no_end = refl
inner (Question t) no_open no_close no_end = refl
inner (Counted t) no_open no_close no_end = refl
inner (Open t) no_open no_close no_end = absurd (no_open t refl)
inner (Close t) no_open no_close no_end = absurd (no_close t refl)
inner End no_open no_close no_end = absurd (no_end refl)

atom_long : {w : List ℕ} {e : Regex} → Atom (λ _ _. ⊥) w e → 0 < length w
atom_long (a_plain small is) = omega arith
atom_long (an_escape is) = omega arith
atom_long a_dot = omega arith
atom_long (a_class ms some) = omega arith
atom_long (a_group g) = absurd g

repeat_long : {w : List ℕ} {e f : Regex} → Repeated w e f → 0 < length w
repeat_long by_star = omega arith
repeat_long by_plus = omega arith
repeat_long by_opt = omega arith
repeat_long (by_count c) = omega arith

-- r says whether a repeat may stand here, and K is what is kept
module _ (p : List ℕ) (at d : ℕ) (r : Bool) (K K' : Mode → Frame → Type 0) (waits : (m : Mode) (fr : Frame) → K m fr → Waits r m) where
  -- the sign is n bytes long
  module _ (n : ℕ) (s : Sign) (handed : Handed p at r s) (long : n ≡ length (text s)) where
    here : drop at p ≡ text s ++ drop (at + n) p
    here = handed.part ∙ ap (λ k. text s ++ drop (at + k) p) (sym long)

    steps : 0 < length (text s) → ((m : Mode) (fr : Frame) → K m fr → LeadsOn p at d (at + n) m fr K') → Steps p at d K (at + n) K'
    steps some leads = record { forward = omega arith; within = omega (arith, part_within p at (text s) some handed.part); leads = leads }

    pub grown : Grows K K' r (text s) → Steps p at d K (at + n) K'
    grown (by_atom e atom told) =
        steps (atom_long atom)
        (atom_leads p at d r K waits (at + n) K' e (subst NoRepeat (sym here) (atom_no_repeat (λ _ _. ⊥) d (λ v e g. absurd g) atom _))
        (λ fr ctx. ap (outcome_of _) here ∙ atom_runs (λ _ _. ⊥) d (λ v e g. absurd g) atom fr ctx (drop (at + n) p)) told)
    grown (by_bar is told) = steps (omega (arith, ap length is)) (bar_leads p at d r K waits (at + n) K' (here ∙ ap (λ l. l ++ drop (at + n) p) is) told)
    grown (by_repeat again g written told) = steps (repeat_long (written empty)) (repeat_leads p at d r K waits (at + n) K' (text s) g written again here told)

  pub group_steps : (w : List ℕ) (end : ℕ) (E : Regex → Type 0) → drop at p ≡ 40 ∷ w → GroupRead p at d end E → ((e : Regex) → E e → AtomKept K K' e) → Steps p at d K end K'
  group_steps w end E is read told = record {
    forward = read.forward;
    within = read.within;
    leads = atom_leads p at d r K waits end K' read.expression (subst NoRepeat (sym is) refl) read.runs (told read.expression read.value);
  }
