-- How the names of bytes are spelled: each is in the list, and none begins another; and whether some name passes a test. Assumes nothing.
use Rattle.std.proofs.Common.{◌≡◌, ℕ, ◌+◌, ◌<◌, ◌≤◌, Bool, true, false, ◌&&◌, Option, None, Some, List, [], ◌∷◌, ◌++◌, length, get_or, take, drop, sym, refl, ap, ◌∙◌, arith}
use Rattle.std.specs.Prelude.{nat_eq, is_some}
use Rattle.std.specs.List.{list_any, list_all, find, starts_with}
use Rattle.std.specs.Cmp.Lexicographic.{pointwise, bytes_decides}
use Rattle.std.proofs.lemmas.List.{take_at, take_all, take-append-drop, length-append}
use Rattle.std.proofs.lemmas.List.Folds.{list_any_at, list_any_more, list_all_at}
use Rattle.std.proofs.lemmas.Option.{none-some, same_Some}
use Rattle.std.proofs.lemmas.Bool.{both_ways, or_from, or_parts, and_left, cond_both, true_from_ne_false, agree_below, agree_below_at}
use Rattle.notation.specs.declared.names.Name.{Name}
use Rattle.notation.specs.declared.names.Name.TheVariants.{Alpha, Digit, Alnum, Upper, Lower, Space, Blank, Punct, Print, Graph, Cntrl, Xdigit}
use Rattle.notation.specs.Names.{written, names}
use Rattle.notation.specs.ClassAutomaton.{spelling}

names_all : (n : Name) → (k : ℕ) × (k < 12) × (get_or names k Alpha ≡ n)
names_all Alpha = (0, omega arith, refl)
names_all Digit = (1, omega arith, refl)
names_all Alnum = (2, omega arith, refl)
names_all Upper = (3, omega arith, refl)
names_all Lower = (4, omega arith, refl)
names_all Space = (5, omega arith, refl)
names_all Blank = (6, omega arith, refl)
names_all Punct = (7, omega arith, refl)
names_all Print = (8, omega arith, refl)
names_all Graph = (9, omega arith, refl)
names_all Cntrl = (10, omega arith, refl)
names_all Xdigit = (11, omega arith, refl)

pub any_name : (test : Name → Bool) (n : Name) → test n ≡ true → list_any test names ≡ true
any_name test n passes = let (k, lt, is) = names_all n in list_any_at test names k Alpha lt (ap test is ∙ passes)

module _ (test : Name → Bool) where
  -- none of the first i names passes
  pub NonePasses : ℕ → Type 0
  NonePasses i = list_any test (take i names) ≡ false

  pub none_at_first : NonePasses 0
  unfolding NonePasses
  none_at_first = refl

  pub none_more : (i : ℕ) → i < 12 → test (get_or names i Alpha) ≡ false → NonePasses i → NonePasses (i + 1)
  unfolding NonePasses
  none_more i lt fails before = list_any_more test names i Alpha lt ∙ or_from _ _ before fails

  pub none_passes : (i : ℕ) → 12 ≤ i → NonePasses i → list_any test names ≡ false
  unfolding NonePasses
  none_passes i all none = sym (ap (list_any test) (take_all i names all)) ∙ none

pub fewer_pass : (p q : Name → Bool) (ns : List Name) → list_any p ns ≡ false → list_any (λ n. p n && q n) ns ≡ false
fewer_pass p q [] none = refl
fewer_pass p q (n ∷ ns) none = let (here, later) = or_parts _ _ none in or_from _ _ (and_left (p n) (q n) here) (fewer_pass p q ns later)

-- a test that computes to true for all of them
pub each_name : (test : Name → Bool) → list_all test names ≡ true → (n : Name) → test n ≡ true
each_name test all n =
    let (k, lt, is) = names_all n in
    true_from_ne_false (test n) (λ fails. both_ways _ (list_all_at test names k Alpha lt (ap test is ∙ fails)) all)

pub whole_name : (n : Name) → spelling (written n) ≡ Some n
unfolding spelling
whole_name Alpha = refl
whole_name Digit = refl
whole_name Alnum = refl
whole_name Upper = refl
whole_name Lower = refl
whole_name Space = refl
whole_name Blank = refl
whole_name Punct = refl
whole_name Print = refl
whole_name Graph = refl
whole_name Cntrl = refl
whole_name Xdigit = refl

none_since : (o : Option Name) → is_some o ≡ false → o ≡ None
none_since None e = refl
none_since (Some n) e = absurd (both_ways _ e refl)

abbrev is_unbroken : Name → Bool
is_unbroken n = agree_below (λ k. is_some (spelling (take k (written n)))) (λ _. false) (length (written n))

pub no_whole : (n : Name) (k : ℕ) → k < length (written n) → spelling (take k (written n)) ≡ None
unfolding spelling
no_whole n k lt = none_since _ (agree_below_at (λ k. is_some (spelling (take k (written n)))) (λ _. false) (length (written n)) k (each_name is_unbroken refl n) lt)

found : (test : Name → Bool) (ms : List Name) (n : Name) → find test ms ≡ Some n → test n ≡ true
found test [] n is = absurd (none-some n is)
found test (m ∷ ms) n is = cond_both (test m) (Some m) (find test ms) (λ o. o ≡ Some n → test n ≡ true) (λ e same. ap test (sym (same_Some m n same)) ∙ e) (λ _ later. found test ms n later) is

pub spelled_so : (w : List ℕ) (n : Name) → spelling w ≡ Some n → written n ≡ w
unfolding spelling
spelled_so w n is = (bytes_decides (written n) w).0 (found (λ m. pointwise nat_eq (written m) w) names n is)

pub begins_so : (n : Name) (w : List ℕ) → starts_with nat_eq (written n) w ≡ true → written n ≡ w ++ drop (length w) (written n)
begins_so n w is = sym (take-append-drop (length w) (written n)) ∙ ap (λ l. l ++ drop (length w) (written n)) (sym ((bytes_decides w (take (length w) (written n))).0 is))

pub begins_by : (n : Name) (x y : List ℕ) → written n ≡ x ++ y → starts_with nat_eq (written n) x ≡ true
begins_by n x y is = (bytes_decides x (take (length x) (written n))).1 (sym (ap (take (length x)) is ∙ take_at x y (length x) refl))

-- a proper beginning of a name is no name
pub unfinished : (n : Name) (x y : List ℕ) → written n ≡ x ++ y → 0 < length y → spelling x ≡ None
unfinished n x y is some =
    ap spelling (sym (ap (take (length x)) is ∙ take_at x y (length x) refl))
    ∙ no_whole n (length x) (omega (arith, ap length is, length-append x y))
