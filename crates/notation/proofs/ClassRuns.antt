-- A well-written class is run through to its bracket, by itself and by the automaton. Assumes nothing.
use Rattle.std.proofs.Common.{◌≡◌, ℕ, ◌<◌, ◌≤◌, Bool, true, false, ◌&&◌, leb, ltb, List, [], ◌∷◌, ◌++◌, length, drop, sym, refl, ap, ◌∙◌, subst, append_assoc, arith}
use Rattle.std.specs.Prelude.{nat_eq}
use Rattle.std.specs.List.{starts_with}
use Rattle.std.proofs.lemmas.Bool.{true≢false, ltb-true, le-leb, cond-true, and_from, and_parts}
use Rattle.notation.specs.Characters.{ClassKind, ends, slash, hyphen, bracket, caret, itself, class_kind, escapable}
use Rattle.notation.specs.declared.names.Name.{Name}
use Rattle.notation.specs.Names.{written, ranges}
use Rattle.notation.specs.Expressions.{Range, Symbol, these, others, TakesSome, one}
use Rattle.notation.specs.Grammar.{ClassByte, bare, escaped, Member, single, range, name, Members, none, more, Class, listed, complement}
use Rattle.notation.specs.ClassAutomaton.{ClassState, entered, fresh, in_escape, member, dashed, dashed_escape, naming, ClassNext, no_class, inside, finished, ranges_in, adding, can_take, spelling, ends_name, can_end, spelled, class_moves, kept, class_next}
use Rattle.notation.specs.Automaton.{Frame, state, after, in_class, of_class, outcome_of}
use Rattle.notation.proofs.Chars.{escapable_low}
use Rattle.notation.proofs.Spellings.{any_name, each_name, whole_name, begins_so, begins_by, unfinished}
use Rattle.notation.proofs.CanTake.{can_take_since, can_take_before, can_take_within, escape_decides, adding_none, adding_more, adding_some}
use Rattle.notation.proofs.Runs.{outcome_is, onward}

-- where a text leads inside a class
pub class_run : List ℕ → ClassNext → ClassNext
class_run [] n = n
class_run (b ∷ w) no_class = no_class
class_run (b ∷ w) (inside s c) = class_run w (class_next (class_kind b) b s c)
class_run (b ∷ w) (finished s) = no_class

pub run_end : (n : ClassNext) → class_run [] n ≡ n
unfolding class_run
run_end n = refl

pub run_on : (b : ℕ) (w : List ℕ) (s : Symbol) (c : ClassState) → class_run (b ∷ w) (inside s c) ≡ class_run w (class_next (class_kind b) b s c)
unfolding class_run
run_on b w s c = refl

pub run_past : (b : ℕ) (w : List ℕ) (s : Symbol) → class_run (b ∷ w) (finished s) ≡ no_class
unfolding class_run
run_past b w s = refl

pub run_dead : (w : List ℕ) → class_run w no_class ≡ no_class
unfolding class_run
run_dead [] = refl
run_dead (b ∷ w) = refl

run_goes : (b : ℕ) (w : List ℕ) (s : Symbol) (c : ClassState) (n : ClassNext) → class_next (class_kind b) b s c ≡ n → class_run (b ∷ w) (inside s c) ≡ class_run w n
run_goes b w s c n is = run_on b w s c ∙ ap (class_run w) is

kept_on : (n : ClassNext) (s : Symbol) (c : ClassState) → n ≡ inside s c → can_end s c ≡ true → kept n ≡ inside s c
kept_on n s c is can = ap kept is ∙ cond-true (can_end s c) _ _ can

-- can stand first in a class, or right behind a whole member
abbrev joins : ClassKind → Bool
joins ends = true
joins slash = true
joins hyphen = false
joins bracket = true
joins caret = false
joins itself = true

abbrev pub Joins : List ℕ → Type 0
Joins [] = ⊥
Joins (b ∷ w) = joins (class_kind b) ≡ true

byte_joins : {w : List ℕ} {b : ℕ} → ClassByte w b → (r : List ℕ) → Joins (w ++ r)
byte_joins (bare small is) r = ap joins is
byte_joins (escaped is) r = refl

-- a name begins with its bracket
name_begins : (n : Name) → (w : List ℕ) × (written n ≡ 91 ∷ w) × (0 < length w)
name_begins n =
    let both = and_parts (starts_with nat_eq (written n) (91 ∷ [])) (ltb 1 (length (written n))) (each_name (λ m. starts_with nat_eq (written m) (91 ∷ []) && ltb 1 (length (written m))) refl n) in
    let is = begins_so n (91 ∷ []) both.0 in
    (drop 1 (written n), is, omega (arith, ltb-true 1 (length (written n)) both.1, ap length is))

member_joins : {w : List ℕ} {rs : List Range} → Member w rs → (rest : List ℕ) → Joins (w ++ rest)
member_joins (single c) rest = byte_joins c rest
member_joins (range {v = v} {w = w} c _ _) rest = rw append_assoc (byte_joins c _)
member_joins (name n) rest = subst (λ l. Joins (l ++ rest)) (sym (name_begins n).1) refl

members_join : {w : List ℕ} {rs : List Range} → Members w rs → (rest : List ℕ) → Joins rest → Joins (w ++ rest)
members_join none rest h = h
members_join (more {v = v} {w = u} ms m) rest h = rw append_assoc (members_join ms (u ++ rest) (member_joins m rest))

member_settled : (k : ClassKind) (b a : ℕ) (s : Symbol) → joins k ≡ true → class_next k b s (member a) ≡ class_next k b (adding s ((a, a) ∷ [])) fresh
member_settled ends b a s e = refl
member_settled slash b a s e = refl
member_settled hyphen b a s e = absurd (true≢false (sym e))
member_settled bracket b a s e = refl
member_settled caret b a s e = absurd (true≢false (sym e))
member_settled itself b a s e = refl

member_settles : (s : Symbol) (a : ℕ) (w : List ℕ) → Joins w → class_run w (inside s (member a)) ≡ class_run w (inside (adding s ((a, a) ∷ [])) fresh)
member_settles s a [] h = absurd h
member_settles s a (b ∷ w) h = run_goes b w s (member a) _ (member_settled (class_kind b) b a s h) ∙ sym (run_on b w _ fresh)

entered_settled : (k : ClassKind) (b : ℕ) → joins k ≡ true → class_next k b (these []) entered ≡ class_next k b (these []) fresh
entered_settled ends b e = refl
entered_settled slash b e = refl
entered_settled hyphen b e = refl
entered_settled bracket b e = refl
entered_settled caret b e = absurd (true≢false (sym e))
entered_settled itself b e = refl

pub entered_settles : (w : List ℕ) → Joins w → class_run w (inside (these []) entered) ≡ class_run w (inside (these []) fresh)
entered_settles [] h = absurd h
entered_settles (b ∷ w) h = run_goes b w (these []) entered _ (entered_settled (class_kind b) b h) ∙ sym (run_on b w _ fresh)

-- with what is read here the class can still take some byte
module _ (s : Symbol) where
  pub escape_runs : (b : ℕ) → escapable b ≡ true → can_take (adding s ((b, b) ∷ [])) ≡ true → (w : List ℕ) → class_run (b ∷ w) (inside s in_escape) ≡ class_run w (inside s (member b))
  escape_runs b is can w = run_goes b w s in_escape _ (kept_on _ s (member b) (moved (class_kind b)) can)
    where
      moved : (k : ClassKind) → class_moves k b s in_escape ≡ inside s (member b)
      moved k = cond-true (escapable b) _ _ is

  pub byte_runs : {v : List ℕ} {b : ℕ} → ClassByte v b → can_take (adding s ((b, b) ∷ [])) ≡ true → (w : List ℕ) → class_run (v ++ w) (inside s fresh) ≡ class_run w (inside s (member b))
  byte_runs (bare {b} small is) can w = run_goes b w s fresh _ (kept_on _ s (member b) (ap (λ k. class_moves k b s fresh) is) can)
  byte_runs (escaped {b} is) can w = run_goes 92 (b ∷ w) s fresh _ (kept_on _ s in_escape refl (can_take_before s ((b, b) ∷ []) can)) ∙ escape_runs b is can w

  pub ends_range : (a b : ℕ) → escapable b ≡ true → a ≤ b → can_take (adding s ((a, b) ∷ [])) ≡ true → (w : List ℕ) → class_run (b ∷ w) (inside s (dashed_escape a)) ≡ class_run w (inside (adding s ((a, b) ∷ [])) fresh)
  ends_range a b is le can w = run_goes b w s (dashed_escape a) _ (kept_on _ _ fresh (moved (class_kind b)) can)
    where
      moved : (k : ClassKind) → class_moves k b s (dashed_escape a) ≡ inside (adding s ((a, b) ∷ [])) fresh
      moved k = cond-true (escapable b && leb a b) _ _ (and_from _ _ is (le-leb a b le))

  -- the second byte of a range
  pub bound_runs : {v : List ℕ} {b : ℕ} → ClassByte v b → (a : ℕ) → a ≤ b → can_take (adding s ((a, b) ∷ [])) ≡ true → (w : List ℕ) → class_run (v ++ w) (inside s (dashed a)) ≡ class_run w (inside (adding s ((a, b) ∷ [])) fresh)
  bound_runs (bare {b} small is) a le can w = run_goes b w s (dashed a) _ (kept_on _ _ fresh (ap (λ k. class_moves k b s (dashed a)) is ∙ cond-true (leb a b) _ _ (le-leb a b le)) can)
  bound_runs (escaped {b} is) a le can w =
      run_goes 92 (b ∷ w) s (dashed a) _ (kept_on _ s (dashed_escape a) refl ((escape_decides s a).1 (b, omega (arith, escapable_low b is), (is, (le, can)))))
      ∙ ends_range a b is le can w

  name_can_end : (n : Name) → can_take (adding s (ranges n)) ≡ true → (x y : List ℕ) → written n ≡ x ++ y → can_end s (naming x) ≡ true
  name_can_end n can x y is = any_name (ends_name s x) n (and_from _ _ (begins_by n x y is) can)

  -- from a beginning x of the name, what is left of it
  pub name_runs : (n : Name) → can_take (adding s (ranges n)) ≡ true → (x y : List ℕ) → written n ≡ x ++ y → 0 < length y → (w : List ℕ)
      → class_run (y ++ w) (inside s (naming x)) ≡ class_run w (inside (adding s (ranges n)) fresh)
  name_runs n can x [] is some w = absurd (omega arith)
  name_runs n can x (b ∷ []) is some w = run_goes b w s (naming x) _ (kept_on _ (adding s (ranges n)) fresh (moved (class_kind b)) can)
    where
      moved : (k : ClassKind) → class_moves k b s (naming x) ≡ inside (adding s (ranges n)) fresh
      moved k = ap (λ o. spelled o s (x ++ b ∷ [])) (ap spelling (sym is) ∙ whole_name n)
  name_runs n can x (b ∷ (c ∷ y)) is some w =
      run_goes b (c ∷ (y ++ w)) s (naming x) _ (kept_on _ s (naming (x ++ b ∷ [])) (moved (class_kind b)) (name_can_end n can _ (c ∷ y) longer))
      ∙ name_runs n can (x ++ b ∷ []) (c ∷ y) longer (omega arith) w
    where
      longer : written n ≡ (x ++ b ∷ []) ++ c ∷ y
      longer = is ∙ sym (append_assoc x (b ∷ []) (c ∷ y))

      moved : (k : ClassKind) → class_moves k b s (naming x) ≡ inside s (naming (x ++ b ∷ []))
      moved k = ap (λ o. spelled o s (x ++ b ∷ [])) (unfinished n (x ++ b ∷ []) (c ∷ y) longer (omega arith))

  member_runs : {v : List ℕ} {qs : List Range} → Member v qs → can_take (adding s qs) ≡ true → (w : List ℕ) → Joins w → class_run (v ++ w) (inside s fresh) ≡ class_run w (inside (adding s qs) fresh)
  member_runs (single {b = b} c) can w h = byte_runs c can w ∙ member_settles s b w h
  member_runs (range {v = v} {w = u} {a = a} {b = b} c e le) can w h =
      let first = can_take_within s a b le can in
      ap (λ l. class_run l (inside s fresh)) (append_assoc v (45 ∷ u) w)
      ∙ byte_runs c first (45 ∷ (u ++ w))
      ∙ run_goes 45 (u ++ w) s (member a) _ (kept_on _ s (dashed a) refl first)
      ∙ bound_runs e a le can w
  member_runs (name n) can w h =
      let (rest, is, some) = name_begins n in
      ap (λ l. class_run (l ++ w) (inside s fresh)) is
      ∙ run_goes 91 (rest ++ w) s fresh _ (kept_on _ s (naming (91 ∷ [])) refl (name_can_end n can (91 ∷ []) rest is))
      ∙ name_runs n can (91 ∷ []) rest is some w

members_run : (s : Symbol) {v : List ℕ} {rs : List Range} → Members v rs → can_take (adding s rs) ≡ true → (w : List ℕ) → Joins w → class_run (v ++ w) (inside s fresh) ≡ class_run w (inside (adding s rs) fresh)
members_run s none can w h = ap (λ x. class_run w (inside x fresh)) (sym (adding_none s))
members_run s (more {v = v} {w = u} {rs = rs} {qs = qs} ms m) can w h =
    let on = ap can_take (adding_more s rs qs) ∙ can in
    ap (λ l. class_run l (inside s fresh)) (append_assoc v u w)
    ∙ members_run s ms (can_take_before (adding s rs) qs on) (u ++ w) (member_joins m w)
    ∙ member_runs (adding s rs) m on w h
    ∙ ap (λ x. class_run w (inside x fresh)) (adding_more s rs qs)

ends_ranges : (s : Symbol) → 0 < length (ranges_in s) → class_run (93 ∷ []) (inside s fresh) ≡ finished s
unfolding class_run
ends_ranges (these []) some = absurd (omega arith)
ends_ranges (these (r ∷ rs)) some = refl
ends_ranges (others []) some = absurd (omega arith)
ends_ranges (others (r ∷ rs)) some = refl

pub class_finishes : {v : List ℕ} {s : Symbol} → Class v s → TakesSome s → class_run (v ++ 93 ∷ []) (inside (these []) entered) ≡ finished s
class_finishes (listed {rs = rs} ms some) takes =
    entered_settles _ (members_join ms (93 ∷ []) refl) ∙ members_run (these []) ms refl (93 ∷ []) refl ∙ ends_ranges (these rs) some
class_finishes (complement {w = v} {rs = rs} ms some) takes =
    let can = can_take_since (others rs) takes in
    run_goes 94 (v ++ 93 ∷ []) (these []) entered _ (kept_on _ (others []) fresh refl (can_take_before (others []) rs can))
    ∙ members_run (others []) ms can (93 ∷ []) refl
    ∙ ends_ranges (others rs) some

-- once a member has been added
pub adding_ends : (s : Symbol) (qs : List Range) → 0 < length qs → class_run (93 ∷ []) (inside (adding s qs) fresh) ≡ finished (adding s qs)
adding_ends s qs some = ends_ranges (adding s qs) (adding_some s qs some)

pub member_ends : (s : Symbol) (a : ℕ) → class_run (93 ∷ []) (inside s (member a)) ≡ finished (adding s ((a, a) ∷ []))
member_ends s a = member_settles s a (93 ∷ []) refl ∙ adding_ends s ((a, a) ∷ []) (omega arith)

pub not_finished : (s : Symbol) → no_class ≡ finished s → ⊥
not_finished s is = cc

module _ (fr : Frame) (d : ℕ) (ctx : List Frame) where
  pub finished_outcome : (v : List ℕ) (n : ClassNext) (s : Symbol) → class_run v n ≡ finished s → (w : List ℕ) → onward (of_class n fr d ctx) (v ++ w) ≡ outcome_of (state (after (one s)) fr d ctx) w
  unfolding class_run
  finished_outcome [] n s is w = ap (λ n. onward (of_class n fr d ctx) w) is
  finished_outcome (b ∷ v) no_class s is w = absurd (not_finished s is)
  finished_outcome (b ∷ v) (inside q c) s is w = outcome_is _ b (v ++ w) ∙ finished_outcome v (class_next (class_kind b) b q c) s is w
  finished_outcome (b ∷ v) (finished q) s is w = absurd (not_finished s is)

  pub class_runs : {v : List ℕ} {s : Symbol} → Class v s → TakesSome s → (w : List ℕ) → outcome_of (state (in_class (these []) entered) fr d ctx) (v ++ 93 ∷ w) ≡ outcome_of (state (after (one s)) fr d ctx) w
  class_runs {v} {s} class takes w =
      ap (outcome_of _) (sym (append_assoc v (93 ∷ []) w)) ∙ finished_outcome (v ++ 93 ∷ []) (inside (these []) entered) s (class_finishes class takes) w
