-- The texts of the empty pattern come to two sets and two starts: that of the empty text, and that of all others. Assumes nothing.
use Rattle.std.proofs.Common.{◌≡◌, ℕ, zero, suc, ◌<◌, ◌⊎◌, Bool, true, false, List, [], ◌∷◌, ◌++◌, length, get_or, refl, sym, ap, ◌∙◌, inl, inr, ⊎_elim, arith, length-append}
use Rattle.std.proofs.lemmas.Bool.{true≢false}
use Rattle.std.proofs.lemmas.Option.{slice_get_within, slice_get-get_or, get_or_from_slice_get}
use Rattle.notation.specs.Expressions.{empty}
use Rattle.numbering.specs.Reaching.{Unlike}
use Rattle.machines.specs.Place.Runs.{Leads, Reaches}
use Rattle.machines.specs.Place.Tables.{PlaceTakes}
use Rattle.machines.specs.Reached.{SameSet, SameStart, MoreSets, MoreStarts}

-- it has no place, so no byte leads anywhere
no_place : (c p : ℕ) → PlaceTakes empty c p → ⊥
no_place c p (s, (us, vs, is), takes) = omega (arith, ap length is, length-append us ((p, s) ∷ vs))

nowhere : (q c p : ℕ) → Leads empty q c p → ⊥
nowhere zero c p leads = no_place c p leads.1
nowhere (suc q) c p leads = no_place c p leads.1

no_more : (c : ℕ) (w : List ℕ) (q p : ℕ) → Reaches empty (c ∷ w) q p → ⊥
no_more c w q p (r, leads, _) = nowhere q c r leads

abbrev is_empty : List ℕ → Bool
is_empty [] = true
is_empty (c ∷ w) = false

same_set : (v w : List ℕ) → is_empty v ≡ is_empty w → SameSet empty v w
same_set [] [] e p = (λ r. r, λ r. r)
same_set [] (c ∷ w) e p = absurd (true≢false e)
same_set (b ∷ v) [] e p = absurd (true≢false (sym e))
same_set (b ∷ v) (c ∷ w) e p = (λ r. absurd (no_more b v 0 p r), λ r. absurd (no_more c w 0 p r))

other_set : (v w : List ℕ) → SameSet empty v w → is_empty v ≡ is_empty w
other_set [] [] same = refl
other_set [] (c ∷ w) same = absurd (no_more c w 0 0 ((same 0).0 refl))
other_set (b ∷ v) [] same = absurd (no_more b v 0 0 ((same 0).1 refl))
other_set (b ∷ v) (c ∷ w) same = refl

after_text : (u v w : List ℕ) → is_empty v ≡ is_empty w → is_empty (u ++ v) ≡ is_empty (u ++ w)
after_text [] v w e = e
after_text (c ∷ u) v w e = refl

same_start : (v w : List ℕ) → is_empty v ≡ is_empty w → SameStart empty v w
same_start v w e u bytes = same_set (u ++ v) (u ++ w) (after_text u v w e)

two_alike : (a b c : Bool) → (a ≡ b) ⊎ ((a ≡ c) ⊎ (b ≡ c))
two_alike true true c = inl refl
two_alike true false true = inr (inl refl)
two_alike true false false = inr (inr refl)
two_alike false false c = inl refl
two_alike false true false = inr (inl refl)
two_alike false true true = inr (inr refl)

abbrev two : List (List ℕ)
two = [] ∷ (0 ∷ []) ∷ []

-- whether text k is empty
abbrev kind : List (List ℕ) → ℕ → Bool
kind texts k = is_empty (get_or texts k [])

apart : (i j : ℕ) → i < 2 → j < 2 → kind two i ≡ kind two j → i ≡ j
apart zero zero low low' e = refl
apart zero (suc zero) low low' e = absurd (true≢false e)
apart (suc zero) zero low low' e = absurd (true≢false (sym e))
apart (suc zero) (suc zero) low low' e = refl
apart (suc (suc i)) j low low' e = omega arith
apart i (suc (suc j)) low low' e = omega arith

-- Where texts are the same exactly if both are empty or neither is, there are two kinds of them.

module _ (Same : List ℕ → List ℕ → Type 0) where
  second : ((v w : List ℕ) → Same v w → is_empty v ≡ is_empty w) → Unlike 1 Same
  second other = record {
    texts = two;
    bytes = (tt, ((omega arith, tt), tt));
    many = refl;
    differ = λ i j v w here there same.
        apart i j (slice_get_within two i v here) (slice_get_within two j w there)
        (ap is_empty (get_or_from_slice_get two i v [] here) ∙ other v w same ∙ sym (ap is_empty (get_or_from_slice_get two j w [] there)));
  }

  no_third : ((v w : List ℕ) → is_empty v ≡ is_empty w → Same v w) → Unlike 2 Same → ⊥
  no_third same more =
      ⊎_elim (λ e. let x = one 0 1 (omega arith) (omega arith) e in omega arith)
      (⊎_elim (λ e. let x = one 0 2 (omega arith) (omega arith) e in omega arith) (λ e. let x = one 1 2 (omega arith) (omega arith) e in omega arith))
      (two_alike (kind more.texts 0) (kind more.texts 1) (kind more.texts 2))
    where
      one : (i j : ℕ) → i < 3 → j < 3 → kind more.texts i ≡ kind more.texts j → i ≡ j
      one i j low low' e =
          let many = more.many in
          more.differ i j _ _ (slice_get-get_or more.texts i [] (omega arith)) (slice_get-get_or more.texts j [] (omega arith)) (same _ _ e)

pub two_sets : MoreSets 1 empty × (MoreSets 2 empty → ⊥)
two_sets = (second (SameSet empty) other_set, no_third (SameSet empty) same_set)

pub two_starts : MoreStarts 1 empty × (MoreStarts 2 empty → ⊥)
two_starts = (second (SameStart empty) (λ v w same. other_set v w (same [] tt)), no_third (SameStart empty) same_start)
