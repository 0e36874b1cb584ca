-- How the class reader follows the automaton: where a member can begin, and where it goes on only if the member in hand can end. Assumes nothing.
use Rattle.std.proofs.Common.{◌≡◌, ℕ, [], ◌∷◌, true, Some, refl, sym, ap, subst, ◌∙◌, arith}
use Rattle.std.proofs.lemmas.Bool.{cond-true}
use Rattle.notation.specs.Characters.{ClassKind, ends, slash, hyphen, bracket, caret, itself, class_kind}
use Rattle.notation.specs.Expressions.{Symbol, these, others}
use Rattle.notation.specs.ClassAutomaton.{entered, fresh, member, ClassNext, no_class, inside, finished, adding, begins_member, can_end, class_moves, kept}
use Rattle.notation.proofs.Chars.{InClass, in_class_lem}
use Rattle.notation.proofs.CanTake.{leaves_decides}
use Rattle.pattern.specs.declared.member.Progress.{Progress}
use Rattle.pattern.specs.declared.member.Progress.TheVariants.{Empty}
use Rattle.pattern.specs.declared.class.OpenClass.{OpenClass}
use Rattle.pattern.specs.declared.class.Onward.TheVariants.{Inside, Ended}
use Rattle.pattern.specs.Members.{state_of, Suits}
use Rattle.pattern.specs.Classes.{Makes, Leads}

by_first : (k : ClassKind) (b : ℕ) (s : Symbol) → InClass k b → (b ≡ 93 → ⊥) → (b ≡ 94 → ⊥) → class_moves k b s entered ≡ begins_member k b s
by_first ends b s told no_end no_caret = absurd (no_end told)
by_first slash b s told no_end no_caret = refl
by_first hyphen b s told no_end no_caret = refl
by_first bracket b s told no_end no_caret = refl
by_first caret b s told no_end no_caret = absurd (no_caret told)
by_first itself b s told no_end no_caret = refl

pub first_begins : (b : ℕ) (s : Symbol) → (b ≡ 93 → ⊥) → (b ≡ 94 → ⊥) → class_moves (class_kind b) b s entered ≡ begins_member (class_kind b) b s
first_begins b s = by_first (class_kind b) b s (in_class_lem b)

by_next : (k : ClassKind) (b : ℕ) (s : Symbol) (a : ℕ) → InClass k b → (b ≡ 45 → ⊥) → class_moves k b s (member a) ≡ begins_member k b (adding s ((a, a) ∷ []))
by_next ends b s a told no_hyphen = refl
by_next slash b s a told no_hyphen = refl
by_next hyphen b s a told no_hyphen = absurd (no_hyphen told)
by_next bracket b s a told no_hyphen = refl
by_next caret b s a told no_hyphen = refl
by_next itself b s a told no_hyphen = refl

pub next_begins : (b : ℕ) (s : Symbol) (a : ℕ) → (b ≡ 45 → ⊥) → class_moves (class_kind b) b s (member a) ≡ begins_member (class_kind b) b (adding s ((a, a) ∷ []))
next_begins b s a = by_next (class_kind b) b s a (in_class_lem b)

pub goes_inside : (new : OpenClass) (n : ClassNext) (s : Symbol) (at : Progress) → new.progress ≡ at → n ≡ inside s (state_of at) → true ≡ can_end s (state_of new.progress) → Makes new s → Suits s at → Leads (Some Inside) (kept n) new
goes_inside new n s at same is can makes suits = (
  s,
  ap kept (is ∙ ap (λ p. inside s (state_of p)) (sym same)) ∙ cond-true (can_end s (state_of new.progress)) (inside s (state_of new.progress)) no_class (sym can),
  record { makes = makes; suits = rw same suits },
)

pub goes_complement : (old new : OpenClass) (n : ClassNext) (s : Symbol) → s ≡ these [] → n ≡ inside (others []) fresh → Makes old s → new.complement ≡ true → new.members ≡ old.members → new.progress ≡ Empty → Leads (Some Inside) (kept n) new
goes_complement old new n s first is makes complement same empty =
    let holds = (subst (Makes old) first makes).1 in
    goes_inside new n (others []) Empty empty is (sym (ap (λ p. can_end (others []) (state_of p)) empty ∙ (leaves_decides []).1 (0, omega arith, λ h. h))) (complement, rw same holds) refl

pub goes_end : (new : OpenClass) (n : ClassNext) (s : Symbol) → n ≡ finished s → Makes new s → Leads (Some Ended) (kept n) new
goes_end new n s is makes = (s, ap kept is, makes)
