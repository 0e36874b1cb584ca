-- How the bytes of names are followed. Assumes nothing.
use Rattle.std.proofs.Common.{◌≡◌, ℕ, ◌+◌, ◌<◌, true, false, eqb, ltb, Option, None, Some, Bor, List, [], ◌∷◌, ◌++◌, length, get_or, take, drop, refl, sym, ap, ◌∙◌, append_assoc, append-nil, arith}
use Rattle.std.specs.Prelude.{nat_eq, Decides, IfSome, is_some}
use Rattle.std.specs.Option.{option_eq}
use Rattle.std.specs.List.{list_any, starts_with}
use Rattle.std.specs.Cmp.Lexicographic.{bytes_decides}
use Rattle.std.proofs.lemmas.List.{take_more, get_or_at, get_or_read, length-append, length-take-le}
use Rattle.std.proofs.lemmas.Bool.{cond-false, both_ways, true≢false, ltb-true, lt-ltb, eqb-true, eq-eqb}
use Rattle.notation.specs.declared.names.Name.{Name}
use Rattle.notation.specs.Names.{written, ranges, names}
use Rattle.notation.specs.Expressions.{Symbol}
use Rattle.notation.specs.ClassAutomaton.{no_class, adding, can_take, spelling, spelled, kept}
use Rattle.notation.proofs.Spellings.{begins_so, begins_by, spelled_so, any_name, NonePasses, fewer_pass}
use Rattle.pattern.specs.declared.spelling.Spelled.{Spelled}
use Rattle.pattern.specs.Members.{so_far, some_begins}

pub some_begins_is : (w : List ℕ) → some_begins w ≡ list_any (λ n. starts_with nat_eq (written n) w) names
unfolding some_begins
some_begins_is w = refl

abbrev pub BeginsNone : List ℕ → ℕ → Type 0
BeginsNone w = NonePasses (λ n. starts_with nat_eq (written n) w)

pub begins_on : (n : Name) (w : List ℕ) (b len : ℕ) → starts_with nat_eq (written n) w ≡ true → length w ≡ len → len < length (written n) → get_or (written n) len 0 ≡ b → take (len + 1) (written n) ≡ w ++ b ∷ []
begins_on n w b len starts long lt is =
    let same = (bytes_decides w (take (length w) (written n))).0 starts in
    take_more (written n) len 0 lt ∙ (λ i. sym (same ∙ ap (λ k. take k (written n)) long) i ++ is i ∷ [])

pub begun_so : (n : Name) (w : List ℕ) (b : ℕ) → starts_with nat_eq (written n) (w ++ b ∷ []) ≡ true → (starts_with nat_eq (written n) w ≡ true) × (length w < length (written n)) × (get_or (written n) (length w) 0 ≡ b)
begun_so n w b starts =
    let rest = drop (length (w ++ b ∷ [])) (written n) in
    let is : written n ≡ w ++ (b ∷ rest) = begins_so n (w ++ b ∷ []) starts ∙ append_assoc w (b ∷ []) rest in
    (begins_by n w (b ∷ rest) is, omega (arith, ap length is, length-append w (b ∷ rest)), ap (λ l. get_or l (length w) 0) is ∙ get_or_at w b rest 0 (length w) refl)

-- whether x stands at len
pub stands_at : (t : List ℕ) (len : ℕ) (x : Bor ℕ) (o : Option (Bor ℕ)) → is_some o ≡ ltb len (length t) → IfSome o (λ y. y.now ≡ get_or t len y.now)
    → Decides (option_eq (λ y z. eqb y.now z.now) o (Some x)) ((len < length t) × (get_or t len 0 ≡ x.now))
stands_at t len x None inside is = (λ e. absurd (true≢false (sym e)), λ (lt, _). absurd (both_ways _ (sym inside) (lt-ltb len (length t) lt)))
stands_at t len x (Some y) inside is =
    let lt = ltb-true len (length t) (sym inside) in
    let here = get_or_read t len y.now lt is 0 in
    (λ e. (lt, sym here ∙ eqb-true y.now x.now e), λ (_, same). eq-eqb y.now x.now (here ∙ same))

pub so_far_long : (n : Spelled) → length (so_far n) ≡ n.len
so_far_long n = length-take-le n.len (written n.name) n.within

-- bytes that begin no name cannot end as one
pub cannot_end : (w : List ℕ) (s : Symbol) → some_begins w ≡ false → kept (spelled (spelling w) s w) ≡ no_class
cannot_end w s none = by (spelling w) refl
  where
    by : (o : Option Name) → spelling w ≡ o → kept (spelled o s w) ≡ no_class
    by None is = cond-false _ _ _ (fewer_pass (λ n. starts_with nat_eq (written n) w) (λ n. can_take (adding s (ranges n))) names (sym (some_begins_is w) ∙ none))
    by (Some n) is =
        let whole = spelled_so w n is in
        absurd (both_ways _ none (some_begins_is w ∙ any_name (λ m. starts_with nat_eq (written m) w) n (begins_by n w [] (whole ∙ sym (append-nil w)))))
