-- What the tests on a byte tell of it. Assumes nothing.
use Rattle.std.proofs.Common.{◌≡◌, ℕ, ◌+◌, ◌-◌, ◌<◌, ◌≤◌, true, cond, ◌&&◌, eqb, leb, sym, ap, ◌∙◌, ⊎_elim, arith}
use Rattle.std.proofs.lemmas.Bool.{true≢false, eqb-true, le-leb, leb-true, cond_both, cond-true, or_cases, and_parts, and_from}
use Rattle.notation.specs.Characters.{Kind, bar, times, add, query, open', close', square, unsquare, brace, unbrace, dot, backslash, plain, kind, is_special, escapable, ClassKind, ends, slash, hyphen, bracket, caret, itself, class_kind}
use Rattle.notation.specs.Automaton.{CountKind, digit, comma, ended, other, count_kind}

-- the byte of this kind
abbrev pub Has : Kind → ℕ → Type 0
Has bar b = b ≡ 124
Has times b = b ≡ 42
Has add b = b ≡ 43
Has query b = b ≡ 63
Has open' b = b ≡ 40
Has close' b = b ≡ 41
Has square b = b ≡ 91
Has unsquare b = b ≡ 93
Has brace b = b ≡ 123
Has unbrace b = b ≡ 125
Has dot b = b ≡ 46
Has backslash b = b ≡ 92
Has plain b = Unit {0}

kind_cond : (b c : ℕ) (k l : Kind) → (b ≡ c → Has k b) → Has l b → Has (cond (eqb b c) k l) b
kind_cond b c k l is rest = cond_both (eqb b c) k l (λ x. Has x b) (λ e. is (eqb-true b c e)) (λ e. rest)

pub has : (b : ℕ) → Has (kind b) b
has b =
    kind_cond b 124 bar _ (λ e. e) (kind_cond b 42 times _ (λ e. e) (kind_cond b 43 add _ (λ e. e) (kind_cond b 63 query _ (λ e. e)
    (kind_cond b 40 open' _ (λ e. e) (kind_cond b 41 close' _ (λ e. e) (kind_cond b 91 square _ (λ e. e) (kind_cond b 93 unsquare _ (λ e. e)
    (kind_cond b 123 brace _ (λ e. e) (kind_cond b 125 unbrace _ (λ e. e) (kind_cond b 46 dot _ (λ e. e) (kind_cond b 92 backslash plain (λ e. e) tt)))))))))))

special_low : (k : Kind) (b : ℕ) → Has k b → is_special k ≡ true → b ≤ 125
special_low bar b h e = omega arith
special_low times b h e = omega arith
special_low add b h e = omega arith
special_low query b h e = omega arith
special_low open' b h e = omega arith
special_low close' b h e = omega arith
special_low square b h e = omega arith
special_low unsquare b h e = omega arith
special_low brace b h e = omega arith
special_low unbrace b h e = omega arith
special_low dot b h e = omega arith
special_low backslash b h e = omega arith
special_low plain b h e = absurd (true≢false (sym e))

pub escapable_low : (b : ℕ) → escapable b ≡ true → b ≤ 125
escapable_low b e =
    ⊎_elim (λ o. special_low (kind b) b (has b) o)
    (λ rest. ⊎_elim (λ (h : eqb b 45 ≡ true). omega (arith, eqb-true b 45 h)) (λ (h : eqb b 94 ≡ true). omega (arith, eqb-true b 94 h)) (or_cases _ _ rest))
    (or_cases _ _ e)

-- the byte of this kind inside a class
abbrev pub InClass : ClassKind → ℕ → Type 0
InClass ends b = b ≡ 93
InClass slash b = b ≡ 92
InClass hyphen b = b ≡ 45
InClass bracket b = b ≡ 91
InClass caret b = b ≡ 94
InClass itself b = Unit {0}

class_cond : (b c : ℕ) (k l : ClassKind) → (b ≡ c → InClass k b) → InClass l b → InClass (cond (eqb b c) k l) b
class_cond b c k l is rest = cond_both (eqb b c) k l (λ x. InClass x b) (λ e. is (eqb-true b c e)) (λ e. rest)

pub in_class_lem : (b : ℕ) → InClass (class_kind b) b
in_class_lem b = class_cond b 93 ends _ (λ e. e) (class_cond b 92 slash _ (λ e. e) (class_cond b 45 hyphen _ (λ e. e) (class_cond b 91 bracket _ (λ e. e) (class_cond b 94 caret itself (λ e. e) tt))))

-- the byte of this kind inside a counted repeat
abbrev pub InCount : CountKind → ℕ → Type 0
InCount (digit k) b = (b ≡ 48 + k) × (k < 10)
InCount comma b = b ≡ 44
InCount ended b = b ≡ 125
InCount other b = Unit {0}

pub in_count_lem : (b : ℕ) → InCount (count_kind b) b
in_count_lem b =
    cond_both (leb 48 b && leb b 57) (digit (b - 48)) _ (λ x. InCount x b)
    (λ e. let p = and_parts (leb 48 b) (leb b 57) e in let lo = leb-true 48 b p.0 in let hi = leb-true b 57 p.1 in (omega arith, omega arith))
    (λ e. cond_both (eqb b 44) comma _ (λ x. InCount x b) (eqb-true b 44) (λ _. cond_both (eqb b 125) ended other (λ x. InCount x b) (eqb-true b 125) (λ _. tt)))

pub digit_kind : (k : ℕ) → k < 10 → count_kind (48 + k) ≡ digit k
digit_kind k h =
    cond-true (leb 48 (48 + k) && leb (48 + k) 57) _ _ (and_from _ _ (le-leb 48 (48 + k) (omega arith)) (le-leb (48 + k) 57 (omega arith)))
    ∙ ap digit (let e : 48 + k - 48 ≡ k = omega arith in e)
