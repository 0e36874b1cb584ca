-- From each state of a class that some text leads to, bytes can follow that end the class well. Assumes nothing.
use Rattle.std.proofs.Common.{◌≡◌, ℕ, true, None, List, [], ◌∷◌, ◌++◌, length, drop, sym, refl, ap, ◌∙◌, subst, append-nil, arith}
use Rattle.std.specs.Prelude.{nat_eq}
use Rattle.std.specs.List.{starts_with}
use Rattle.std.proofs.lemmas.Bool.{and_parts}
use Rattle.std.proofs.lemmas.Option.{none-some}
use Rattle.std.proofs.lemmas.List.Folds.{Any-from_list_any}
use Rattle.notation.specs.declared.names.Name.{Name}
use Rattle.notation.specs.Names.{written, ranges, names}
use Rattle.notation.specs.Expressions.{Symbol, these, byte}
use Rattle.notation.specs.Grammar.{ClassByte, bare, escaped}
use Rattle.notation.specs.ClassAutomaton.{ClassState, entered, fresh, in_escape, member, dashed, dashed_escape, naming, inside, finished, adding, can_take, spelling, ends_name}
use Rattle.notation.proofs.Spellings.{whole_name, begins_so}
use Rattle.notation.proofs.CanTake.{byte_small, ranges_some, spare, escape_decides}
use Rattle.notation.proofs.ClassRuns.{class_run, entered_settles, escape_runs, byte_runs, ends_range, bound_runs, name_runs, adding_ends, member_ends}
use Rattle.notation.proofs.Seen.{ClassSoFar}
use Rattle.notation.proofs.Sounds.{Bytes, bytes_append, bytes_behind, name_bytes}

-- some bytes end the class
abbrev pub ClassEnding : Symbol → ClassState → Type 0
ClassEnding s c = (v : List ℕ) × Bytes v × (f : Symbol) × (class_run v (inside s c) ≡ finished f)

byte_bytes : {w : List ℕ} {b : ℕ} → ClassByte w b → Bytes w
byte_bytes (bare small is) = (small, tt)
byte_bytes (escaped is) = (omega arith, (byte_small (escaped is), tt))

fresh_ends : (s : Symbol) → can_take s ≡ true → ClassEnding s fresh
fresh_ends s can =
    let (b, small, is, _, left) = spare s can in
    (b ∷ (93 ∷ []), (small, (omega arith, tt)), adding s ((b, b) ∷ []), byte_runs s (bare small is) left (93 ∷ []) ∙ member_ends s b)

-- as the class `[.]`
entered_ends : ClassEnding (these []) entered
entered_ends = (46 ∷ (93 ∷ []), (omega arith, (omega arith, tt)), byte 46, entered_settles _ refl ∙ byte_runs (these []) (bare (omega arith) refl) refl (93 ∷ []) ∙ member_ends (these []) 46)

named_ends : (s : Symbol) (n : Name) (w y : List ℕ) → can_take (adding s (ranges n)) ≡ true → written n ≡ w ++ y → spelling w ≡ None → ClassEnding s (naming w)
named_ends s n w [] can is unspelled = absurd (none-some n (sym unspelled ∙ ap spelling (sym (is ∙ append-nil w)) ∙ whole_name n))
named_ends s n w (b ∷ y) can is unspelled = (
  (b ∷ y) ++ 93 ∷ [],
  bytes_append (b ∷ y) (93 ∷ []) (bytes_behind w (b ∷ y) (subst Bytes is (name_bytes n))) (omega arith, tt),
  adding s (ranges n),
  name_runs s n can w (b ∷ y) is (omega arith) (93 ∷ []) ∙ adding_ends s (ranges n) (ranges_some n),
)

pub class_ending : (s : Symbol) (c : ClassState) (t : List ℕ) → ClassSoFar s c t → ClassEnding s c
class_ending s entered t (can, (empty, _)) = subst (λ x. ClassEnding x entered) (sym empty) entered_ends
class_ending s fresh t (can, _) = fresh_ends s can
class_ending s in_escape t (can, _) =
    let (b, small, _, is, left) = spare s can in
    (b ∷ (93 ∷ []), (small, (omega arith, tt)), adding s ((b, b) ∷ []), escape_runs s b is left (93 ∷ []) ∙ member_ends s b)
class_ending s (member a) t (can, _) = (93 ∷ [], (omega arith, tt), adding s ((a, a) ∷ []), member_ends s a)
class_ending s (dashed a) t (can, (v, y, _, _, part)) =
    (y ++ 93 ∷ [], bytes_append y (93 ∷ []) (byte_bytes part) (omega arith, tt), adding s ((a, a) ∷ []), bound_runs s part a (omega arith) can (93 ∷ []) ∙ adding_ends s ((a, a) ∷ []) (omega arith))
class_ending s (dashed_escape a) t (can, _) =
    let (b, small, (is, (le, left))) = (escape_decides s a).0 can in
    (b ∷ (93 ∷ []), (small, (omega arith, tt)), adding s ((a, b) ∷ []), ends_range s a b is le left (93 ∷ []) ∙ adding_ends s ((a, b) ∷ []) (omega arith))
class_ending s (naming w) t (can, (v, _, _, unspelled)) =
    let (k, n, lt, is, passes) = Any-from_list_any (ends_name s w) names can in
    let both = and_parts (starts_with nat_eq (written n) w) (can_take (adding s (ranges n))) passes in
    named_ends s n w (drop (length w) (written n)) both.1 (begins_so n w both.0) unspelled
