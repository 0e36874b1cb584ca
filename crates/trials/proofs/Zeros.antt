-- Where a byte 0 stands in two texts joined. Assumes nothing.
use Rattle.std.proofs.Common.{◌≡◌, ℕ, Bool, true, false, ◌||◌, eqb, List, [], ◌∷◌, ◌++◌, MatchBool, sym, refl, ap, ◌∙◌, append-nil}
use Rattle.std.proofs.lemmas.Bool.{both_ways}
use Rattle.folding.specs.Sets.{Hopeful, Lost}
use Rattle.trials.specs.Zeroless.{has_zero, Zeroless}

or_assoc : (a b c : Bool) → ((a || b) || c) ≡ (a || (b || c))
or_assoc true b c = refl
or_assoc false b c = refl

or_false : (a : Bool) → (a || false) ≡ a
or_false true = refl
or_false false = refl

pub zero_joined : (v w : List ℕ) → has_zero (v ++ w) ≡ (has_zero v || has_zero w)
zero_joined [] w = refl
zero_joined (b ∷ v) w = ap (λ x. eqb b 0 || x) (zero_joined v w) ∙ sym (or_assoc (eqb b 0) (has_zero v) (has_zero w))

pub zero_more : (w : List ℕ) (c : ℕ) → has_zero (w ++ (c ∷ [])) ≡ (has_zero w || eqb c 0)
zero_more w c = zero_joined w (c ∷ []) ∙ ap (λ x. has_zero w || x) (or_false (eqb c 0))

pub zero_loses : (w : List ℕ) (b : Bool) → b ≡ has_zero w → MatchBool b (Lost Zeroless w) (Hopeful Zeroless w)
zero_loses w true is = λ v bytes none. both_ways (has_zero (w ++ v)) none (zero_joined w v ∙ ap (λ x. x || has_zero v) (sym is))
zero_loses w false is = ([], tt, ap has_zero (append-nil w) ∙ sym is)
