-- What has been read of a well-written class, and what is left of it, lead to its symbol. Assumes nothing.
use Rattle.std.proofs.Common.{◌≡◌, ℕ, ◌+◌, ◌<◌, ◌≤◌, Option, None, Some, List, [], ◌∷◌, ◌++◌, length, get_or, drop, sym, ap, ◌∙◌, subst}
use Rattle.std.proofs.lemmas.List.{drop_all}
use Rattle.pattern.specs.declared.member.Progress.TheVariants.{Opened}
use Rattle.pattern.specs.declared.class.OpenClass.{OpenClass}
use Rattle.pattern.specs.declared.class.Onward.{Onward}
use Rattle.pattern.specs.declared.class.Onward.TheVariants.{Inside, Ended}
use Rattle.notation.specs.Characters.{class_kind}
use Rattle.notation.specs.Expressions.{Symbol, these, TakesSome}
use Rattle.notation.specs.Grammar.{Class}
use Rattle.notation.specs.ClassAutomaton.{ClassState, inside, finished, class_next}
use Rattle.pattern.specs.Members.{state_of}
use Rattle.pattern.specs.Classes.{Makes, IsAt, Leads, Advances}
use Rattle.notation.proofs.ClassRuns.{class_run, run_on, run_end, run_past, run_dead, class_finishes, not_finished}
use Rattle.pattern.proofs.Slices.{drop_is}

-- with what is left of t the class becomes s
pub record Left (t : List ℕ) (s : Symbol) (i : ℕ) (class : OpenClass) : Type 0 where
  pub symbol : Symbol
  pub is_at : IsAt class symbol
  pub rest : class_run (drop i t ++ 93 ∷ []) (inside symbol (state_of class.progress)) ≡ finished s

abbrev pub EndsAs : List ℕ → ℕ → OpenClass → Type 0
EndsAs t i class = (s : Symbol) → Class t s → TakesSome s → Left t s i class

pub ends_at_first : (t : List ℕ) (class : OpenClass) → IsAt class (these []) → class.progress ≡ Opened → EndsAs t 0 class
ends_at_first t class is_at start s written some =
    record { symbol = these []; is_at = is_at; rest = ap (λ p. class_run (t ++ 93 ∷ []) (inside (these []) (state_of p))) start ∙ class_finishes written some }

ends_last : (w : List ℕ) (r s : Symbol) → class_run (w ++ 93 ∷ []) (finished r) ≡ finished s → ⊥
ends_last [] r s is = not_finished s (sym (run_past 93 [] r) ∙ is)
ends_last (b ∷ w) r s is = not_finished s (sym (run_past b (w ++ 93 ∷ []) r) ∙ is)

still_inside : (r : Symbol) (c : ClassState) (s : Symbol) → inside r c ≡ finished s → ⊥
still_inside r c s is = cc

same_class : (r s : Symbol) → finished r ≡ finished s → r ≡ s
same_class r s is = cc

module _ (t : List ℕ) (s : Symbol) (i : ℕ) (old : OpenClass) (left : Left t s i old) where
  after : (b : ℕ) (w : List ℕ) → drop i t ++ 93 ∷ [] ≡ b ∷ w → class_run w (class_next (class_kind b) b left.symbol (state_of old.progress)) ≡ finished s
  after b w here = sym (run_on b w left.symbol (state_of old.progress)) ∙ ap (λ l. class_run l (inside left.symbol (state_of old.progress))) (sym here) ∙ left.rest

  now : (b : ℕ) → i < length t → get_or t i 0 ≡ b → class_run (drop (i + 1) t ++ 93 ∷ []) (class_next (class_kind b) b left.symbol (state_of old.progress)) ≡ finished s
  now b lt is = after b _ (ap (λ l. l ++ 93 ∷ []) (drop_is t i b lt is))

  pub more_left : (b : ℕ) → i < length t → get_or t i 0 ≡ b → (new : OpenClass) (onward : Option Onward) → Advances old b onward new → Left t s (i + 1) new
  more_left b lt byte new (Some Inside) advances =
      let (r, is, is_at) = advances left.symbol left.is_at in
      record { symbol = r; is_at = is_at; rest = ap (class_run _) (sym is) ∙ now b lt byte }
  more_left b lt byte new (Some Ended) advances = let (r, is, _) = advances left.symbol left.is_at in absurd (ends_last _ r s (ap (class_run _) (sym is) ∙ now b lt byte))
  more_left b lt byte new None advances = absurd (not_finished s (sym (run_dead _) ∙ ap (class_run _) (sym (advances left.symbol left.is_at)) ∙ now b lt byte))

  -- the bracket finishes the last member
  pub all_left : length t ≤ i → (new : OpenClass) (onward : Option Onward) → Advances old 93 onward new → Makes new s
  all_left past new onward advances = whole onward (advances left.symbol left.is_at)
    where
      is : class_next (class_kind 93) 93 left.symbol (state_of old.progress) ≡ finished s
      is = sym (run_end _) ∙ after 93 [] (ap (λ l. l ++ 93 ∷ []) (drop_all i t past))

      whole : (onward : Option Onward) → Leads onward (class_next (class_kind 93) 93 left.symbol (state_of old.progress)) new → Makes new s
      whole (Some Inside) (r, on, _) = absurd (still_inside r _ s (sym on ∙ is))
      whole (Some Ended) (r, ended, makes) = subst (Makes new) (same_class r s (sym ended ∙ is)) makes
      whole None dead = absurd (not_finished s (sym dead ∙ is))
