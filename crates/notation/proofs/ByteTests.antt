-- Tests on bytes: whether one is in some of the ranges, whether some byte passes, and whether a table has the ranges' bytes. Assumes nothing.
use Rattle.std.proofs.Common.{◌≡◌, ℕ, suc, ◌<◌, Bool, true, false, cond, ◌&&◌, ◌||◌, eqb, leb, List, [], ◌∷◌, get_or, sym, refl, ◌∙◌}
use Rattle.std.specs.Prelude.{Decides}
use Rattle.std.proofs.lemmas.Bool.{true≢false, eqb-true, leb-true, le-leb, agree_below, agree_below_at, cond-true, cond-false, false_from_ne_true}
use Rattle.std.proofs.lemmas.Bool.Decides.{Decides-and, Decides-or, Decides-below_or}
use Rattle.notation.specs.Expressions.{Range, InSome}
use Rattle.notation.specs.Names.{Marks}
use Rattle.notation.specs.ClassAutomaton.{in_some, some_below, some_byte}

pub in_some_decides : (rs : List Range) (b : ℕ) → Decides (in_some rs b) (InSome rs b)
in_some_decides [] b = (λ e. absurd (true≢false (sym e)), λ h. absurd h)
in_some_decides (r ∷ rs) b =
    Decides-or (leb r.0 b && leb b r.1) (in_some rs b) (Decides-and (leb r.0 b) (leb b r.1) (leb-true r.0 b, le-leb r.0 b) (leb-true b r.1, le-leb b r.1)) (in_some_decides rs b)

below_none : (test : ℕ → Bool) → some_below test 0 ≡ false
unfolding some_below
below_none test = refl

below_more : (test : ℕ → Bool) (n : ℕ) → some_below test (suc n) ≡ (test n || some_below test n)
unfolding some_below
below_more test n = refl

pub some_byte_decides : (test : ℕ → Bool) (P : ℕ → Type 0) → ((b : ℕ) → Decides (test b) (P b)) → Decides (some_byte test) ((b : ℕ) × (b < 256) × P b)
some_byte_decides test P each = Decides-below_or test P (some_below test) each (below_none test) (below_more test) 256

abbrev pub entry : List Range → ℕ → ℕ
entry rs c = cond (in_some rs c) 1 0

-- computed over a whole table
abbrev pub is_marked : List ℕ → List Range → Bool
is_marked t rs = agree_below (λ c. eqb (get_or t c 0) (entry rs c)) (λ _. true) 256

pub marks : (t : List ℕ) (rs : List Range) → is_marked t rs ≡ true → Marks t rs
marks t rs all c lt =
    let (tells, told) = in_some_decides rs c in
    let is = eqb-true (get_or t c 0) (entry rs c) (agree_below_at (λ x. eqb (get_or t x 0) (entry rs x)) (λ _. true) 256 c all lt) in (
      λ h. is ∙ cond-true (in_some rs c) 1 0 (told h),
      λ h. is ∙ cond-false (in_some rs c) 1 0 (false_from_ne_true (in_some rs c) (λ e. h (tells e))),
    )
