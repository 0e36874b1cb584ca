-- Sets of bytes as rows of masks. Assumes nothing.
use Rattle.std.proofs.Common.{◌≡◌, ℕ, zero, suc, ◌<◌, Bool, true, false, cond, ◌↔◌, List, [], ◌∷◌, get_or, sym, refl, ap, ◌∙◌, subst, inl, inr, ⊎_elim, arith}
use Rattle.std.proofs.lemmas.Bool.{true≢false, cases_lt}
use Rattle.notation.specs.Expressions.{Range, Symbol, these, InSome}
use Rattle.pattern.specs.declared.bytes.ByteSet.{ByteSet}
use Rattle.pattern.specs.ByteSets.{Has as HasByte, Holds}
use Rattle.relations.specs.Masks.{Has, SetOf, Only}
use Rattle.relations.proofs.Combining.{only_members, swapped}
use Rattle.machines.specs.Place.Letters.{LettersOf, SomeLetters}

abbrev pub RowsOf : ByteSet → List ℕ → Type 0
RowsOf b takes = (c p : ℕ) → c < 256 → Has (get_or takes c 0) p ↔ ((p ≡ 1) × HasByte b c)

set_letters : (b : ByteSet) (takes : List ℕ) → RowsOf b takes → (s : Symbol) → Holds b s → LettersOf s takes
set_letters b takes rows s holds c p lt = (
  λ h. let (e, has) = (rows c p lt).0 h in (e, (holds c lt).0 has),
  λ (e, t). (rows c p lt).1 (e, (holds c lt).1 t),
)

-- each byte below n that passes, as a range of its own
one_by_one : (ℕ → Bool) → ℕ → List Range
one_by_one test zero = []
one_by_one test (suc n) = cond (test n) ((n, n) ∷ one_by_one test n) (one_by_one test n)

-- one more byte
one_by_one_more : (test : ℕ → Bool) (n c : ℕ) (rs : List Range) → InSome rs c ↔ ((c < n) × (test c ≡ true)) → (b : Bool) → test n ≡ b → InSome (cond b ((n, n) ∷ rs) rs) c ↔ ((c < suc n) × (test c ≡ true))
one_by_one_more test n c rs (into, back) true is = (
  ⊎_elim (λ (low, high). let same : n ≡ c = omega arith in (omega arith, subst (λ k. test k ≡ true) same is)) (λ h. let (lt, t) = into h in (omega arith, t)),
  λ (lt, t). ⊎_elim (λ past. inr (back (past, t))) (λ last. inl (last, omega arith)) (cases_lt c n),
)
one_by_one_more test n c rs (into, back) false is = (
  λ h. let (lt, t) = into h in (omega arith, t),
  λ (lt, t). ⊎_elim (λ past. back (past, t)) (λ last. let same : c ≡ n = omega arith in absurd (true≢false (sym t ∙ ap test same ∙ is))) (cases_lt c n),
)

in_one_by_one : (test : ℕ → Bool) (n c : ℕ) → InSome (one_by_one test n) c ↔ ((c < n) × (test c ≡ true))
unfolding one_by_one
in_one_by_one test zero c = (λ h. absurd h, λ (lt, _). absurd (omega (arith, lt)))
in_one_by_one test (suc n) c = one_by_one_more test n c (one_by_one test n) (in_one_by_one test n c) (test n) refl

set_symbol : (b : ByteSet) → (s : Symbol) × Holds b s
set_symbol b =
    let test : ℕ → Bool = λ c. get_or b.has c false in
    (these (one_by_one test 256), λ c lt. (λ has. (in_one_by_one test 256 c).1 (lt, has), λ t. ((in_one_by_one test 256 c).0 t).1))

pub some_set : (b : ByteSet) (takes : List ℕ) → RowsOf b takes → (c : ℕ) → c < 256 → HasByte b c → SomeLetters takes
some_set b takes rows c lt has = let (s, holds) = set_symbol b in ∣ (s, (c, lt, (holds c lt).0 has), set_letters b takes rows s holds) ∣₁

-- what is written into one row
pub row_members : (r place : ℕ) (has : Bool) → SetOf place (λ p. p ≡ 1) → SetOf r (Only has place) → SetOf r (λ p. (p ≡ 1) × (has ≡ true))
row_members r place has one is = swapped r (only_members r place has is (λ e. e, λ e. e) one)
