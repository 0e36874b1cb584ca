-- What a text comes to under a machine, what a roll of it comes to once a strip is corrected, and both in numbers. Assumes nothing.
--
--   over n w             w, n times in a row
--   Verdict M w r        r is whether w is in M
--   in_strips n w        w in n strips, each the next 8,000 bytes or what is left of them
--   Corrected M w s v r  r is whether the 128 strips of w, of which that of the slot s is v in its place, make a text in M, or the fault of a slot
--                        that there is not
--   code r               the number of an outcome: 0 no, 1 yes, and of a refusal its own number and 1
--   Says A n             n is the number of what A says
use Rattle.std.specs.Prelude.{◌≡◌, ℕ, zero, suc, ◌+◌, ◌<◌, ◌≤◌, Bool, true, false, List, [], ◌∷◌, ◌++◌, take, drop, Ok, Err, Decides, Result, MatchResult, slice_set}
use Rattle.fault.specs.Numbers.{number}
use Rattle.fault.specs.declared.Fault.{Fault}
use Rattle.fault.specs.declared.Refusal.TheVariants.{NoSuchSlot}
use Rattle.folding.specs.Texts.{together}
use Rattle.roll.specs.Refusals.{fault}

unfoldable pub over : ℕ → List ℕ → List ℕ
over zero w = []
over (suc n) w = over n w ++ w

abbrev pub Verdict : (List ℕ → Type 0) → List ℕ → Result Bool Fault → Type 0
Verdict M w r = MatchResult r (λ b. Decides b (M w)) (λ f. ⊥)

unfoldable pub in_strips : ℕ → List ℕ → List (List ℕ)
in_strips zero w = []
in_strips (suc n) w = take 8000 w ∷ in_strips n (drop 8000 w)

abbrev pub Corrected : (List ℕ → Type 0) → List ℕ → ℕ → List ℕ → Result Bool Fault → Type 0
Corrected M w s v r =
    MatchResult r
    (λ b. (s < 128) × Decides b (M (together (slice_set (in_strips 128 w) s (take 8000 v)))))
    (λ f. (128 ≤ s) × (f ≡ fault NoSuchSlot s))

abbrev pub code : Result Bool Fault → ℕ
code (Ok false) = 0
code (Ok true) = 1
code (Err f) = number f.refusal + 1

abbrev pub Says : (Result Bool Fault → Type 0) → ℕ → Type 0
Says A n = (r : Result Bool Fault) × A r × (n ≡ code r)
