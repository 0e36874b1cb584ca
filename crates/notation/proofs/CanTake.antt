-- What classes take: whether a complement still leaves some byte, and that more members never leave more. Assumes nothing.
use Rattle.std.proofs.Common.{◌≡◌, ℕ, ◌<◌, ◌≤◌, ◌⊎◌, true, leb, ltb, List, [], ◌∷◌, ◌++◌, length, refl, ap, inl, inr, ⊎_elim, append_assoc, append-nil, arith}
use Rattle.std.specs.Prelude.{Decides}
use Rattle.std.proofs.lemmas.List.{length-append}
use Rattle.std.proofs.lemmas.Bool.{cases_eq, ltb-true, le-leb, leb-true}
use Rattle.std.proofs.lemmas.Bool.Decides.{Decides-not, Decides-and}
use Rattle.notation.specs.Characters.{class_kind, itself, escapable}
use Rattle.notation.specs.declared.names.Name.{Name}
use Rattle.notation.specs.Names.{ranges}
use Rattle.notation.specs.Expressions.{Range, Symbol, these, others, InSome, TakesSome}
use Rattle.notation.specs.Grammar.{ClassByte, bare, escaped, Member, single, range, name, Members, none, more}
use Rattle.notation.specs.ClassAutomaton.{in_some, some_byte, some_below, ranges_in, adding, can_take, can_end, dashed_escape}
use Rattle.notation.proofs.Chars.{escapable_low}
use Rattle.notation.proofs.ByteTests.{in_some_decides, some_byte_decides}
use Rattle.notation.proofs.Spellings.{each_name}

pub in_left : (rs qs : List Range) (b : ℕ) → InSome rs b → InSome (rs ++ qs) b
in_left [] qs b h = absurd h
in_left (r ∷ rs) qs b (inl h) = inl h
in_left (r ∷ rs) qs b (inr h) = inr (in_left rs qs b h)

pub in_right : (rs qs : List Range) (b : ℕ) → InSome qs b → InSome (rs ++ qs) b
in_right [] qs b h = h
in_right (r ∷ rs) qs b h = inr (in_right rs qs b h)

pub in_either : (rs qs : List Range) (b : ℕ) → InSome (rs ++ qs) b → InSome rs b ⊎ InSome qs b
in_either [] qs b h = inr h
in_either (r ∷ rs) qs b (inl h) = inl (inl h)
in_either (r ∷ rs) qs b (inr h) = ⊎_elim (λ l. inl (inr l)) (λ l. inr l) (in_either rs qs b h)

-- some byte is in none of the ranges
abbrev pub Leaves : List Range → Type 0
Leaves rs = (b : ℕ) × (b < 256) × (InSome rs b → ⊥)

pub leaves_decides : (rs : List Range) → Decides (can_take (others rs)) (Leaves rs)
leaves_decides rs = some_byte_decides _ (λ b. InSome rs b → ⊥) (λ b. Decides-not (in_some rs b) (in_some_decides rs b))

pub others_take : (rs : List Range) → can_take (others rs) ≡ true → TakesSome (others rs)
others_take rs can = let (b, small, out) = (leaves_decides rs).0 can in (b, small, (small, out))

pub can_take_since : (s : Symbol) → TakesSome s → can_take s ≡ true
can_take_since (these rs) takes = refl
can_take_since (others rs) (b, small, (_, out)) = (leaves_decides rs).1 (b, small, out)

-- fewer bytes in the ranges leave no fewer
can_take_under : (rs qs : List Range) → ((b : ℕ) → InSome rs b → InSome qs b) → can_take (others qs) ≡ true → can_take (others rs) ≡ true
can_take_under rs qs under can = let (b, small, out) = (leaves_decides qs).0 can in (leaves_decides rs).1 (b, small, λ h. out (under b h))

pub can_take_before : (s : Symbol) (qs : List Range) → can_take (adding s qs) ≡ true → can_take s ≡ true
can_take_before (these rs) qs can = refl
can_take_before (others rs) qs can = can_take_under rs (rs ++ qs) (in_left rs qs) can

pub can_take_within : (s : Symbol) (a b : ℕ) → a ≤ b → can_take (adding s ((a, b) ∷ [])) ≡ true → can_take (adding s ((a, a) ∷ [])) ≡ true
can_take_within (these rs) a b le can = refl
can_take_within (others rs) a b le can =
    can_take_under (rs ++ (a, a) ∷ []) (rs ++ (a, b) ∷ [])
    (λ c h. ⊎_elim (λ l. in_left rs ((a, b) ∷ []) c l) (λ l. in_right rs ((a, b) ∷ []) c (wider c l)) (in_either rs ((a, a) ∷ []) c h))
    can
  where
    wider : (c : ℕ) → InSome ((a, a) ∷ []) c → InSome ((a, b) ∷ []) c
    wider c (inl h) = inl (h.0, omega arith)
    wider c (inr h) = absurd h

leaves_with : (rs : List Range) (c b : ℕ) → b < 256 → (InSome rs b → ⊥) → (b ≡ c → ⊥) → can_take (others (rs ++ (c, c) ∷ [])) ≡ true
leaves_with rs c b small out other = (leaves_decides (rs ++ (c, c) ∷ [])).1 (b, small, λ h. ⊎_elim out (λ l. same l) (in_either rs ((c, c) ∷ []) b h))
  where
    same : InSome ((c, c) ∷ []) b → ⊥
    same (inl h) = other (omega arith)
    same (inr h) = absurd h

-- a byte that can be one member more, bare or escaped, so that some other byte is still left
abbrev pub Spare : Symbol → Type 0
Spare s = (b : ℕ) × (b < 256) × (class_kind b ≡ itself) × (escapable b ≡ true) × (can_take (adding s ((b, b) ∷ [])) ≡ true)

pub spare : (s : Symbol) → can_take s ≡ true → Spare s
spare (these rs) can = (46, omega arith, refl, refl, refl)
spare (others rs) can =
    let (b, small, out) = (leaves_decides rs).0 can in
    ⊎_elim (λ (e : b ≡ 46). (42, omega arith, refl, refl, leaves_with rs 42 b small out (λ f. omega arith))) (λ other. (46, omega arith, refl, refl, leaves_with rs 46 b small out other)) (cases_eq b 46)

pub escape_decides : (s : Symbol) (a : ℕ) → Decides (can_end s (dashed_escape a)) ((b : ℕ) × (b < 256) × ((escapable b ≡ true) × ((a ≤ b) × (can_take (adding s ((a, b) ∷ [])) ≡ true))))
escape_decides s a =
    some_byte_decides _ _
    (λ b. Decides-and (escapable b) _ (λ e. e, λ e. e) (Decides-and (leb a b) (can_take (adding s ((a, b) ∷ []))) (leb-true a b, le-leb a b) (λ e. e, λ e. e)))

pub adding_none : (s : Symbol) → adding s [] ≡ s
adding_none (these rs) = ap these (append-nil rs)
adding_none (others rs) = ap others (append-nil rs)

pub adding_more : (s : Symbol) (rs qs : List Range) → adding (adding s rs) qs ≡ adding s (rs ++ qs)
adding_more (these ps) rs qs = ap these (append_assoc ps rs qs)
adding_more (others ps) rs qs = ap others (append_assoc ps rs qs)

pub adding_some : (s : Symbol) (qs : List Range) → 0 < length qs → 0 < length (ranges_in (adding s qs))
adding_some (these rs) qs some = omega (arith, length-append rs qs)
adding_some (others rs) qs some = omega (arith, length-append rs qs)

pub byte_small : {w : List ℕ} {b : ℕ} → ClassByte w b → b < 256
byte_small (bare small is) = small
byte_small (escaped {b} is) = omega (arith, escapable_low b is)

pub ranges_some : (n : Name) → 0 < length (ranges n)
ranges_some n = ltb-true 0 (length (ranges n)) (each_name (λ m. ltb 0 (length (ranges m))) refl n)

name_takes : (n : Name) → (b : ℕ) × (b < 256) × InSome (ranges n) b
unfolding some_below
name_takes n = (some_byte_decides (in_some (ranges n)) (InSome (ranges n)) (in_some_decides (ranges n))).0 (each_name (λ m. some_byte (in_some (ranges m))) refl n)

member_takes : {w : List ℕ} {rs : List Range} → Member w rs → (b : ℕ) × (b < 256) × InSome rs b
member_takes (single {b = b} c) = (b, byte_small c, inl (omega arith, omega arith))
member_takes (range {a = a} c _ le) = (a, byte_small c, inl (omega arith, le))
member_takes (name n) = name_takes n

pub members_take : {w : List ℕ} {rs : List Range} → Members w rs → 0 < length rs → TakesSome (these rs)
members_take none some = absurd (omega arith)
members_take (more {rs = rs} {qs = qs} ms m) some = let (b, small, here) = member_takes m in (b, small, in_right rs qs b here)
