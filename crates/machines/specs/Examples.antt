-- Patterns worked out by hand, with what they mean, how many sets and starts their texts come to, and how they are refused. Assumes nothing.
--
--   Claim     what is said of one pattern, in the six forms below
--   Holds     what each form says: `has_sets n` that exactly n sets are reached, more than n - 1 and no more than n, and `has_starts n` so of starts
--   Examples  each of the claims holds
use Rattle.std.specs.Prelude.{ℕ, ◌-◌, List, [], ◌∷◌, codes}
use Rattle.std.specs.List.{AllByRecursion}
use Rattle.fault.specs.declared.Fault.{Fault}
use Rattle.fault.specs.declared.Refusal.TheVariants.{BadlyWritten, TooManyPlaces}
use Rattle.notation.specs.Expressions.{Regex}
use Rattle.notation.specs.Meaning.{Matches}
use Rattle.notation.specs.Reading.{ReadAs, Granted, Refused}
use Rattle.notation.specs.Refusals.{refused}
use Rattle.machines.specs.Reached.{MoreSets, MoreStarts}

infix 70 ◌yields◌ ◌omits◌ ◌has_places◌ ◌has_sets◌ ◌has_starts◌ ◌answers◌
pub data Claim : Type 0 where
  ◌yields◌ ◌omits◌ : List ℕ → List ℕ → Claim
  ◌has_places◌ ◌has_sets◌ ◌has_starts◌ : List ℕ → ℕ → Claim
  ◌answers◌ : List ℕ → Fault → Claim

abbrev pub Holds : Claim → Type 0
Holds (p yields w) = (e : Regex) × ReadAs p e × Matches e w
Holds (p omits w) = (e : Regex) × ReadAs p e × (Matches e w → ⊥)
Holds (p has_places n) = Granted p n
Holds (p has_sets n) = (e : Regex) × ReadAs p e × MoreSets (n - 1) e × (MoreSets n e → ⊥)
Holds (p has_starts n) = (e : Regex) × ReadAs p e × MoreStarts (n - 1) e × (MoreStarts n e → ⊥)
Holds (p answers f) = Refused p f

-- `[^`, byte 0, `-`, byte 255, `]`: a complement that leaves no byte
abbrev pub all_but_none : List ℕ
all_but_none = 91 ∷ 94 ∷ 0 ∷ 45 ∷ 255 ∷ 93 ∷ []

abbrev pub claims : List Claim
claims =
    codes "" has_places 0
    ∷ codes "" yields codes ""
    ∷ codes "" omits codes "a"
    ∷ codes "" has_sets 2
    ∷ codes "" has_starts 2
    ∷ codes "(abc)*" has_places 3
    ∷ codes "(abc)*" yields codes ""
    ∷ codes "(abc)*" yields codes "abcabc"
    ∷ codes "(abc)*" omits codes "cab"
    ∷ codes "[A-B]+C" has_places 3
    ∷ codes "[A-B]+C" yields codes "ABC"
    ∷ codes "[A-B]+C" omits codes "C"
    ∷ codes "(a|b){2,3}" has_places 6
    ∷ codes "(a|b){2,3}" yields codes "ab"
    ∷ codes "(a|b){2,3}" omits codes "abab"
    ∷ codes "a{0}" has_places 0
    ∷ codes "a{0}" omits codes "a"
    ∷ codes "a{32}a{31}" has_places 63
    ∷ codes "a{32}a{32}" answers refused TooManyPlaces 0
    ∷ codes "a{2,1}" answers refused BadlyWritten 5
    ∷ codes "[b-a]" answers refused BadlyWritten 3
    ∷ codes "a{33}" answers refused BadlyWritten 3
    ∷ codes "a**" answers refused BadlyWritten 2
    ∷ codes "*a" answers refused BadlyWritten 0
    ∷ codes "[[:digit:]]" yields codes "5"
    ∷ codes "[[:digit:]]" omits codes "a"
    ∷ codes "[^a]" yields codes "b"
    ∷ codes "[^a]" omits codes "a"
    ∷ codes "[[:foo:]]" answers refused BadlyWritten 3
    ∷ all_but_none answers refused BadlyWritten 4
    ∷ []

abbrev pub Examples : Type 0
Examples = AllByRecursion Holds claims
