-- A byte that goes on in a class adds to the text that was read of it. Assumes nothing.
use Rattle.std.proofs.Common.{◌≡◌, ℕ, ◌<◌, true, ◌&&◌, leb, Option, None, Some, List, [], ◌∷◌, ◌++◌, sym, refl, ap, ◌∙◌, subst, append_assoc, arith}
use Rattle.std.proofs.lemmas.Bool.{cond_both, leb-true, and_parts}
use Rattle.notation.specs.declared.names.Name.{Name}
use Rattle.notation.specs.Names.{ranges}
use Rattle.notation.specs.Characters.{ClassKind, ends, slash, hyphen, bracket, caret, itself, class_kind, escapable}
use Rattle.notation.specs.Expressions.{Range, Symbol, these, others, TakesSome}
use Rattle.notation.specs.Grammar.{ClassByte, bare, escaped, Member, single, range, name, none, more, Class, listed, complement}
use Rattle.notation.specs.ClassAutomaton.{ClassState, entered, fresh, in_escape, member, dashed, dashed_escape, naming, ClassNext, no_class, inside, finished, adding, can_take, spelling, can_end, closed_class, begins_member, spelled, class_moves, kept, class_next}
use Rattle.notation.proofs.Chars.{InClass, in_class_lem}
use Rattle.notation.proofs.Spellings.{spelled_so}
use Rattle.notation.proofs.CanTake.{members_take, others_take}
use Rattle.notation.proofs.Seen.{Begun, Inside, ClassSoFar}

-- what the class is after one byte more: still open, or whole but for its last byte
abbrev pub Goes : ClassNext → List ℕ → ℕ → Type 0
Goes no_class t b = Unit {0}
Goes (inside s c) t b = ClassSoFar s c (t ++ b ∷ [])
Goes (finished s) t b = (b ≡ 93) × Class t s × TakesSome s

-- the same before it is asked whether the member in hand can end
abbrev Reads : ClassNext → List ℕ → ℕ → Type 0
Reads no_class t b = Unit {0}
Reads (inside s c) t b = Inside s c (t ++ b ∷ [])
Reads (finished s) t b = (b ≡ 93) × Class t s × TakesSome s

keeps : (n : ClassNext) (t : List ℕ) (b : ℕ) → Reads n t b → Goes (kept n) t b
keeps no_class t b reads = tt
keeps (inside s c) t b reads = cond_both (can_end s c) (inside s c) no_class (λ n. Goes n t b) (λ can. (can, reads)) (λ _. tt)
keeps (finished s) t b reads = reads

pub class_begun : ClassSoFar (these []) entered []
class_begun = (refl, (refl, refl))

grows : (s : Symbol) (v : List ℕ) {w : List ℕ} {qs : List Range} → Begun s v → Member w qs → Begun (adding s qs) (v ++ w)
grows (these rs) v ms m = more ms m
grows (others rs) v {w} (u, is, ms) m = (u ++ w, ap (λ l. l ++ w) is, more ms m)

closes : (s : Symbol) (t : List ℕ) (b : ℕ) → b ≡ 93 → can_take s ≡ true → Begun s t → Reads (closed_class s) t b
closes (these []) t b told can ms = tt
closes (these (r ∷ rs)) t b told can ms = (told, listed ms (omega arith), members_take ms (omega arith))
closes (others []) t b told can seen = tt
closes (others (r ∷ rs)) t b told can (u, is, ms) =
    (told, subst (λ l. Class l (others (r ∷ rs))) (sym is) (complement ms (omega arith)), others_take (r ∷ rs) can)

begins : (b : ℕ) → b < 256 → (k : ClassKind) → class_kind b ≡ k → InClass k b → (s : Symbol) (t : List ℕ) → can_take s ≡ true → Begun s t → Reads (begins_member k b s) t b
unfolding spelling
begins b small ends is told s t can seen = closes s t b told can seen
begins b small slash is told s t can seen = (t, ap (λ x. t ++ x ∷ []) told, seen)
begins b small hyphen is told s t can seen = tt
begins b small bracket is told s t can seen = (t, refl, seen, subst (λ x. spelling (x ∷ []) ≡ None) (sym told) refl)
begins b small caret is told s t can seen = tt
begins b small itself is told s t can seen = (t, b ∷ [], refl, seen, bare small is)

reads_entered : (b : ℕ) → b < 256 → (k : ClassKind) → class_kind b ≡ k → InClass k b → Reads (class_moves k b (these []) entered) [] b
reads_entered b small ends is told = tt
reads_entered b small slash is told = begins b small slash is told (these []) [] refl none
reads_entered b small hyphen is told = tt
reads_entered b small bracket is told = begins b small bracket is told (these []) [] refl none
reads_entered b small caret is told = ([], ap (λ x. x ∷ []) told, none)
reads_entered b small itself is told = begins b small itself is told (these []) [] refl none

reads_member : (b : ℕ) → b < 256 → (k : ClassKind) → class_kind b ≡ k → InClass k b → (s : Symbol) (a : ℕ) (v y : List ℕ) → can_take (adding s ((a, a) ∷ [])) ≡ true → Begun s v → ClassByte y a
    → Reads (class_moves k b s (member a)) (v ++ y) b
reads_member b small ends is told s a v y can seen part = begins b small ends is told _ (v ++ y) can (grows s v seen (single part))
reads_member b small slash is told s a v y can seen part = begins b small slash is told _ (v ++ y) can (grows s v seen (single part))
reads_member b small hyphen is told s a v y can seen part = (v, y, append_assoc v y _ ∙ ap (λ x. v ++ (y ++ x ∷ [])) told, seen, part)
reads_member b small bracket is told s a v y can seen part = begins b small bracket is told _ (v ++ y) can (grows s v seen (single part))
reads_member b small caret is told s a v y can seen part = tt
reads_member b small itself is told s a v y can seen part = begins b small itself is told _ (v ++ y) can (grows s v seen (single part))

reads_dashed : (b : ℕ) → b < 256 → (k : ClassKind) → class_kind b ≡ k → InClass k b → (s : Symbol) (a : ℕ) (v y : List ℕ) → Begun s v → ClassByte y a → Reads (class_moves k b s (dashed a)) (v ++ (y ++ 45 ∷ [])) b
reads_dashed b small ends is told s a v y seen part = tt
reads_dashed b small slash is told s a v y seen part = (v, y, append_assoc v _ _ ∙ ap (λ l. v ++ l) (append_assoc y _ _) ∙ ap (λ x. v ++ (y ++ 45 ∷ (x ∷ []))) told, seen, part)
reads_dashed b small hyphen is told s a v y seen part = tt
reads_dashed b small bracket is told s a v y seen part = tt
reads_dashed b small caret is told s a v y seen part = tt
reads_dashed b small itself is told s a v y seen part =
    cond_both (leb a b) _ _ (λ n. Reads n (v ++ (y ++ 45 ∷ [])) b)
    (λ e. subst (Begun (adding s ((a, b) ∷ []))) (sym (append_assoc v _ _ ∙ ap (λ l. v ++ l) (append_assoc y _ _))) (grows s v seen (range part (bare small is) (leb-true a b e))))
    (λ _. tt)

reads_dashed_escape : (b : ℕ) (k : ClassKind) (s : Symbol) (a : ℕ) (v y : List ℕ) → Begun s v → ClassByte y a → Reads (class_moves k b s (dashed_escape a)) (v ++ (y ++ 45 ∷ (92 ∷ []))) b
reads_dashed_escape b k s a v y seen part =
    cond_both (escapable b && leb a b) _ _ (λ n. Reads n (v ++ (y ++ 45 ∷ (92 ∷ []))) b)
    (λ e.
    let both = and_parts _ _ e in
    subst (Begun (adding s ((a, b) ∷ []))) (sym (append_assoc v _ _ ∙ ap (λ l. v ++ l) (append_assoc y _ _))) (grows s v seen (range part (escaped both.0) (leb-true a b both.1))))
    (λ _. tt)

reads_naming : (b : ℕ) (s : Symbol) (v w : List ℕ) → Begun s v → (o : Option Name) → spelling (w ++ b ∷ []) ≡ o → Reads (spelled o s (w ++ b ∷ [])) (v ++ w) b
reads_naming b s v w seen None is = (v, append_assoc v w _, seen, is)
reads_naming b s v w seen (Some n) is =
    subst (Begun (adding s (ranges n))) (ap (λ l. v ++ l) (spelled_so (w ++ b ∷ []) n is) ∙ sym (append_assoc v w _)) (grows s v seen (name n))

reads : (b : ℕ) → b < 256 → (k : ClassKind) → class_kind b ≡ k → InClass k b → (s : Symbol) (c : ClassState) (t : List ℕ) → ClassSoFar s c t → Reads (class_moves k b s c) t b
reads b small k is told s entered t (can, (empty, at)) =
    subst (λ x. Reads (class_moves k b x entered) t b) (sym empty) (subst (λ l. Reads (class_moves k b (these []) entered) l b) (sym at) (reads_entered b small k is told))
reads b small k is told s fresh t (can, seen) = begins b small k is told s t can seen
reads b small k is told s in_escape t (can, (v, at, seen)) =
    subst (λ l. Reads (class_moves k b s in_escape) l b) (sym at)
    (cond_both (escapable b) _ _ (λ n. Reads n (v ++ 92 ∷ []) b) (λ e. (v, 92 ∷ (b ∷ []), append_assoc v _ _, seen, escaped e)) (λ _. tt))
reads b small k is told s (member a) t (can, (v, y, at, seen, part)) = subst (λ l. Reads (class_moves k b s (member a)) l b) (sym at) (reads_member b small k is told s a v y can seen part)
reads b small k is told s (dashed a) t (can, (v, y, at, seen, part)) = subst (λ l. Reads (class_moves k b s (dashed a)) l b) (sym at) (reads_dashed b small k is told s a v y seen part)
reads b small k is told s (dashed_escape a) t (can, (v, y, at, seen, part)) = subst (λ l. Reads (class_moves k b s (dashed_escape a)) l b) (sym at) (reads_dashed_escape b k s a v y seen part)
reads b small k is told s (naming w) t (can, (v, at, seen, _)) = subst (λ l. Reads (class_moves k b s (naming w)) l b) (sym at) (reads_naming b s v w seen _ refl)

pub class_goes : (b : ℕ) → b < 256 → (s : Symbol) (c : ClassState) (t : List ℕ) → ClassSoFar s c t → Goes (class_next (class_kind b) b s c) t b
class_goes b small s c t seen = keeps (class_moves (class_kind b) b s c) t b (reads b small (class_kind b) refl (in_class_lem b) s c t seen)
