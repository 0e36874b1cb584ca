-- Whether the member in hand can end well, as the reader's tests decide it. Assumes nothing.
use Rattle.std.proofs.Common.{◌≡◌, ℕ, ◌<◌, ◌≤◌, ◌+◌, Bool, true, false, not, Option, None, Some, List, [], ◌∷◌, ◌++◌, sym, ap, ◌∙◌, ⊎_elim, arith}
use Rattle.std.specs.Prelude.{Decides, nat_eq}
use Rattle.std.specs.List.{starts_with}
use Rattle.std.proofs.lemmas.Bool.{both_ways, cases_eq, false_from_ne_true, and_from}
use Rattle.notation.specs.declared.names.Name.{Name}
use Rattle.notation.specs.Names.{written, ranges}
use Rattle.notation.specs.Characters.{escapable}
use Rattle.notation.specs.Expressions.{Symbol, these, others}
use Rattle.notation.specs.ClassAutomaton.{dashed_escape, naming, adding, can_take, ends_name, can_end}
use Rattle.notation.proofs.CanTake.{escape_decides}
use Rattle.notation.proofs.Spellings.{any_name}
use Rattle.pattern.specs.declared.class.OpenClass.{OpenClass}
use Rattle.pattern.specs.ByteSets.{Has}
use Rattle.pattern.specs.declared.member.Member.{Member}
use Rattle.pattern.specs.Members.{ranges_of, with_last}
use Rattle.pattern.specs.Classes.{Makes}
use Rattle.pattern.proofs.ByteSets.{not_full}

-- a complement that goes on with one member more, or with none
pub leaves_some : (old new : OpenClass) (s : Symbol) (more : Option Member) → old.complement ≡ true → Makes old s → Makes new (with_last s more) → (full : Bool) → Decides full ((c : ℕ) → c < 256 → Has new.members c) → not full ≡ can_take (with_last s more)
leaves_some old new (these rs) more complement (plain, _) longer full told = absurd (both_ways _ plain complement)
leaves_some old new (others rs) None complement _ (_, holds) full told = not_full new.members rs holds full told
leaves_some old new (others rs) (Some m) complement _ (_, holds) full told = not_full new.members (rs ++ ranges_of m) holds full told

-- no byte from `first` on and below `last` can end an escape well
abbrev pub NoneEnds : Symbol → ℕ → ℕ → Type 0
NoneEnds s first last = (b : ℕ) → first ≤ b → b < last → escapable b ≡ true → can_take (adding s ((first, b) ∷ [])) ≡ true → ⊥

pub none_ends_more : (s : Symbol) (first last : ℕ) → NoneEnds s first last → (escapable last ≡ true → can_take (adding s ((first, last) ∷ [])) ≡ true → ⊥) → NoneEnds s first (last + 1)
none_ends_more s first last before here b low lt can takes =
    ⊎_elim (λ (is : b ≡ last). here (ap escapable (sym is) ∙ can) (ap (λ x. can_take (adding s ((first, x) ∷ []))) (sym is) ∙ takes)) (λ other. before b low (omega arith) can takes) (cases_eq b last)

pub some_ends : (s : Symbol) (first last : ℕ) → first ≤ last → last < 256 → true ≡ escapable last → true ≡ can_take (adding s ((first, last) ∷ [])) → true ≡ can_end s (dashed_escape first)
some_ends s first last le lt can takes = sym ((escape_decides s first).1 (last, lt, (sym can, (le, sym takes))))

pub none_ends : (s : Symbol) (first : ℕ) → NoneEnds s first 256 → false ≡ can_end s (dashed_escape first)
none_ends s first none = sym (false_from_ne_true _ (λ e. let (b, lt, (can, (le, takes))) = (escape_decides s first).0 e in none b le lt can takes))

pub some_name_ends : (s : Symbol) (w : List ℕ) (n : Name) → true ≡ starts_with nat_eq (written n) w → true ≡ can_take (adding s (ranges n)) → true ≡ can_end s (naming w)
some_name_ends s w n begins takes = sym (any_name (ends_name s w) n (and_from _ _ (sym begins) (sym takes)))
