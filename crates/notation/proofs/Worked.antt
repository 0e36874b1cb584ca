-- Patterns worked out by hand: the automaton is run on each pattern, and its set is looked into. Assumes nothing.
use Rattle.std.proofs.Common.{◌≡◌, ℕ, zero, suc, ◌-◌, ◌≤◌, true, List, [], ◌∷◌, ◌++◌, length, get_or, codes, refl, ap, ◌∙◌, subst, inl, inr, arith, length-append}
use Rattle.std.specs.List.{flat_map, AllByRecursion}
use Rattle.fault.specs.declared.Refusal.TheVariants.{BadlyWritten, TooManyPlaces}
use Rattle.notation.specs.Expressions.{these, others, InSome, Regex, byte, one, empty, seq, alt, star, plus, counted, Takes}
use Rattle.notation.specs.Places.{places}
use Rattle.notation.specs.Grammar.{Written}
use Rattle.notation.specs.Beginnings.{LongestBeginning}
use Rattle.notation.specs.Meaning.{Lang, Empty, Union, Copies, Matches}
use Rattle.notation.specs.ClassAutomaton.{some_below, spelling}
use Rattle.notation.specs.Automaton.{good, bad, outcome_of, start}
use Rattle.notation.specs.Refusals.{refused}
use Rattle.notation.specs.Reading.{ReadAs, Refused}
use Rattle.notation.proofs.Sounds.{all_bytes, bytes_by, sound}
use Rattle.notation.proofs.Faults.{longest, not_written}

read_as : (w : List ℕ) (e : Regex) → all_bytes w ≡ true → outcome_of start w ≡ good e → Written 16 w e
read_as w e bytes is = sound w e (bytes_by w bytes) is

refused_at : (w : List ℕ) (n k : ℕ) → all_bytes w ≡ true → length w ≤ 256 → outcome_of start w ≡ bad n → length w - n ≡ k → Refused w (refused BadlyWritten k)
refused_at w n k bytes short is place =
    inr (inl (short, not_written w n is, subst (LongestBeginning w) place (longest w n (bytes_by w bytes) is), refl))

reads : (w : List ℕ) (e : Regex) → all_bytes w ≡ true → length w ≤ 256 → outcome_of start w ≡ good e → places e ≤ 63 → ReadAs w e
reads w e bytes short is few = record { short = short; written = read_as w e bytes is; few = few }

abbrev letter : ℕ → Regex
letter b = one (byte b)

takes : (b : ℕ) → Takes (byte b) b
takes b = inl (omega arith, omega arith)

taken : (b a : ℕ) → Takes (byte b) a → a ≡ b
taken b a (inl (lo, hi)) = omega arith
taken b a (inr none) = absurd none

not_empty : (b : ℕ) (w : List ℕ) → b ∷ w ≡ [] → ⊥
not_empty b w e = omega (arith, ap length e)

-- the empty pattern
pub empty_read : ReadAs (codes "") empty
unfolding outcome_of
empty_read = reads (codes "") empty refl (omega arith) refl (omega arith)

pub empty_omits : Matches empty (codes "a") → ⊥
empty_omits = not_empty _ _

-- (abc)*
abbrev abc : Regex
abc = seq (seq (seq empty (letter 97)) (letter 98)) (letter 99)

abbrev pub stars : Regex
stars = seq empty (star abc)

pub stars_read : ReadAs (codes "(abc)*") stars
unfolding outcome_of
stars_read = reads (codes "(abc)*") stars refl (omega arith) refl (omega arith)

abc_in : Matches abc (codes "abc")
abc_in = (codes "ab", codes "c", refl, (codes "a", codes "b", refl, ([], codes "a", refl, refl, (97, refl, takes 97)), (98, refl, takes 98)), (99, refl, takes 99))

abc_is : (w : List ℕ) → Matches abc w → w ≡ codes "abc"
abc_is w (u, v, is, (u1, v1, is1, (u2, v2, is2, none, (a, va, ta)), (b, vb, tb)), (c, vc, tc)) =
    let first = va ∙ ap (λ x. x ∷ []) (taken 97 a ta) in
    let second = vb ∙ ap (λ x. x ∷ []) (taken 98 b tb) in
    let third = vc ∙ ap (λ x. x ∷ []) (taken 99 c tc) in
    is ∙ (λ i. (is1 ∙ (λ j. (is2 ∙ (λ k. none k ++ first k)) j ++ second j)) i ++ third i)

pub stars_none : Matches stars (codes "")
stars_none = ([], [], refl, refl, ([], tt, refl))

pub stars_twice : Matches stars (codes "abcabc")
stars_twice = ([], codes "abcabc", refl, refl, (codes "abc" ∷ (codes "abc" ∷ []), (abc_in, (abc_in, tt)), refl))

no_cab : (ws : List (List ℕ)) → AllByRecursion (Matches abc) ws → codes "cab" ≡ flat_map (λ u. u) ws → ⊥
no_cab [] all is = not_empty _ _ is
no_cab (x ∷ ws) all is = let z : ◌≡◌ {A = ℕ} 99 97 = ap (λ l. get_or l 0 0) (is ∙ ap (λ l. l ++ flat_map (λ u. u) ws) (abc_is x all.0)) in omega arith

pub stars_omit : Matches stars (codes "cab") → ⊥
stars_omit (u, v, is, none, (ws, all, whole)) = no_cab ws all (is ∙ (λ i. none i ++ whole i))

-- [A-B]+C
abbrev pub plusses : Regex
plusses = seq (seq empty (plus (one (these ((65, 66) ∷ []))))) (letter 67)

pub plusses_read : ReadAs (codes "[A-B]+C") plusses
unfolding outcome_of
plusses_read = reads (codes "[A-B]+C") plusses refl (omega arith) refl (omega arith)

pub plusses_yield : Matches plusses (codes "ABC")
plusses_yield = (codes "AB", codes "C", refl, ([], codes "AB", refl, refl, (codes "A", codes "B", refl, (65, refl, inl (omega arith, omega arith)), (codes "B" ∷ [], ((66, refl, inl (omega arith, omega arith)), tt), refl))), (67, refl, takes 67))

pub plusses_omit : Matches plusses (codes "C") → ⊥
plusses_omit (u, v, is, (u1, v1, is1, none, (x, y, is2, (a, xa, _), more)), (c, vc, _)) =
    omega (arith, ap length is, length-append u v, ap length is1, length-append u1 v1, ap length is2, length-append x y, ap length xa, ap length vc)

-- (a|b){2,3}
abbrev either : Regex
either = alt (seq empty (letter 97)) (seq empty (letter 98))

abbrev pub counts : Regex
counts = seq empty (counted 2 3 either)

pub counts_read : ReadAs (codes "(a|b){2,3}") counts
unfolding outcome_of
counts_read = reads (codes "(a|b){2,3}") counts refl (omega arith) refl (omega arith)

pub counts_yield : Matches counts (codes "ab")
counts_yield = (
  [],
  codes "ab",
  refl,
  refl,
  (codes "ab", [], refl, (codes "a", codes "b", refl, inl ([], codes "a", refl, refl, (97, refl, takes 97)), (codes "b", [], refl, inr ([], codes "b", refl, refl, (98, refl, takes 98)), refl)), ([], [], refl, inr refl, refl)),
)

letter_short : (b : ℕ) (w : List ℕ) → Matches (seq empty (letter b)) w → length w ≤ 1
letter_short b w (u, v, is, none, (a, va, _)) = omega (arith, ap length is, length-append u v, ap length none, ap length va)

either_short : (w : List ℕ) → Matches either w → length w ≤ 1
either_short w (inl h) = letter_short 97 w h
either_short w (inr h) = letter_short 98 w h

copies_short : (n : ℕ) (L : Lang ℕ) → ((w : List ℕ) → L w → length w ≤ 1) → (w : List ℕ) → Copies n L w → length w ≤ n
copies_short zero L short w none = omega (arith, ap length none)
copies_short (suc n) L short w (u, v, is, here, more) = omega (arith, ap length is, length-append u v, short u here, copies_short n L short v more)

or_none_short : (w : List ℕ) → Union (Matches either) Empty w → length w ≤ 1
or_none_short w (inl h) = either_short w h
or_none_short w (inr none) = omega (arith, ap length none)

pub counts_omit : Matches counts (codes "abab") → ⊥
counts_omit (u, v, is, none, (x, y, is2, front, back)) =
    omega (arith, ap length is, length-append u v, ap length none, ap length is2, length-append x y, copies_short 2 (Matches either) either_short x front, copies_short 1 (Union (Matches either) Empty) or_none_short y back)

-- a{0}
abbrev pub none_of : Regex
none_of = seq empty (counted 0 0 (letter 97))

pub none_read : ReadAs (codes "a{0}") none_of
unfolding outcome_of
none_read = reads (codes "a{0}") none_of refl (omega arith) refl (omega arith)

pub none_omits : Matches none_of (codes "a") → ⊥
none_omits (u, v, is, none, (x, y, is2, front, back)) = omega (arith, ap length is, length-append u v, ap length none, ap length is2, length-append x y, ap length front, ap length back)

-- a{32}a{31} and a{32}a{32}
abbrev times : ℕ → Regex
times n = counted n n (letter 97)

abbrev pub full : Regex
full = seq (seq empty (times 32)) (times 31)

pub full_read : ReadAs (codes "a{32}a{31}") full
unfolding outcome_of
full_read = reads (codes "a{32}a{31}") full refl (omega arith) refl (omega arith)

pub crowded : Refused (codes "a{32}a{32}") (refused TooManyPlaces 0)
unfolding outcome_of
crowded = inr (inr (omega arith, seq (seq empty (times 32)) (times 32), read_as (codes "a{32}a{32}") (seq (seq empty (times 32)) (times 32)) refl refl, omega arith, refl))

-- badly written
pub most_below_least : Refused (codes "a{2,1}") (refused BadlyWritten 5)
unfolding outcome_of
most_below_least = refused_at (codes "a{2,1}") 1 5 refl (omega arith) refl refl

pub range_backwards : Refused (codes "[b-a]") (refused BadlyWritten 3)
unfolding outcome_of
range_backwards = refused_at (codes "[b-a]") 2 3 refl (omega arith) refl refl

pub count_too_large : Refused (codes "a{33}") (refused BadlyWritten 3)
unfolding outcome_of
count_too_large = refused_at (codes "a{33}") 2 3 refl (omega arith) refl refl

pub repeated_twice : Refused (codes "a**") (refused BadlyWritten 2)
unfolding outcome_of
repeated_twice = refused_at (codes "a**") 1 2 refl (omega arith) refl refl

pub nothing_to_repeat : Refused (codes "*a") (refused BadlyWritten 0)
unfolding outcome_of
nothing_to_repeat = refused_at (codes "*a") 2 0 refl (omega arith) refl refl

pub unknown_name : Refused (codes "[[:foo:]]") (refused BadlyWritten 3)
unfolding outcome_of some_below spelling
unknown_name = refused_at (codes "[[:foo:]]") 6 3 refl (omega arith) refl refl

-- a complement that leaves no byte
pub nothing_left : Refused (91 ∷ 94 ∷ 0 ∷ 45 ∷ 255 ∷ 93 ∷ []) (refused BadlyWritten 4)
unfolding outcome_of some_below spelling
nothing_left = refused_at (91 ∷ 94 ∷ 0 ∷ 45 ∷ 255 ∷ 93 ∷ []) 2 4 refl (omega arith) refl refl

-- [[:digit:]]
abbrev pub digit : Regex
digit = seq empty (one (these ((48, 57) ∷ [])))

pub digit_read : ReadAs (codes "[[:digit:]]") digit
unfolding outcome_of some_below spelling
digit_read = reads (codes "[[:digit:]]") digit refl (omega arith) refl (omega arith)

pub digit_yields : Matches digit (codes "5")
digit_yields = ([], codes "5", refl, refl, (53, refl, inl (omega arith, omega arith)))

same_letter : (a b : ℕ) (u v : List ℕ) → a ∷ [] ≡ u ++ v → u ≡ [] → v ≡ b ∷ [] → a ≡ b
same_letter a b u v is none lone = ap (λ l. get_or l 0 0) (is ∙ (λ i. none i ++ lone i))

pub digit_omits : Matches digit (codes "a") → ⊥
digit_omits (u, v, is, none, (c, lone, inl (lo, hi))) = let same = same_letter 97 c u v is none lone in omega arith
digit_omits (u, v, is, none, (c, lone, inr out)) = absurd out

-- [^a]
abbrev pub not_a : Regex
not_a = seq empty (one (others ((97, 97) ∷ [])))

pub not_a_read : ReadAs (codes "[^a]") not_a
unfolding outcome_of some_below spelling
not_a_read = reads (codes "[^a]") not_a refl (omega arith) refl (omega arith)

is_not_a : InSome ((97, 97) ∷ []) 98 → ⊥
is_not_a (inl (lo, hi)) = omega arith
is_not_a (inr out) = absurd out

pub not_a_yields : Matches not_a (codes "b")
not_a_yields = ([], codes "b", refl, refl, (98, refl, (omega arith, is_not_a)))

pub not_a_omits : Matches not_a (codes "a") → ⊥
not_a_omits (u, v, is, none, (c, lone, (small, out))) = let same = same_letter 97 c u v is none lone in out (inl (omega arith, omega arith))
