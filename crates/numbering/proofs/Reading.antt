-- A row is read byte by byte, whether the byte's point is looked up or copied. Assumes nothing.
use Rattle.std.proofs.Common.{◌≡◌, ℕ, ◌+◌, ◌*◌, ◌<◌, ◌≤◌, List, length, take, Contains, Some, slice_set, refl, sym, ap, ◌∙◌, ⊎_elim, arith}
use Rattle.std.specs.List.{slice_get}
use Rattle.std.proofs.lemmas.List.{take-take, take-append-le, length-take, length-take-le, length_push}
use Rattle.std.proofs.lemmas.Option.{slice_get_within}
use Rattle.numbering.specs.Reaching.{MoreThan}
use Rattle.numbering.specs.Searching.{Progress, Reading, MeetsIn}
use Rattle.numbering.specs.Filling.{Fit}
use Rattle.numbering.proofs.Listing.{front_at}
use Rattle.numbering.proofs.Searching.{goes_on, like, full}

within_room : {X : Type 0} (n : ℕ) (xs : List X) → length (take n xs) ≡ n → n ≤ length xs
within_room n xs whole = omega (arith, whole, length-take n xs)

-- the points met before stay where they are
kept_front : {P : Type 0} (n n' : ℕ) (were are : List P) (p : P) (k : ℕ) → MeetsIn n were p k n' are → n ≤ length were → take n are ≡ take n were
kept_front n n' were are p k meets room =
    sym (take-take n n' are meets.1)
    ∙ ⊎_elim
    (λ old. ap (take n) old.1 ∙ take-take n n were (omega arith))
    (λ new. ap (take n) new.2 ∙ take-append-le n (take n were) _ (omega (arith, length-take-le n were room)) ∙ take-take n n were (omega arith))
    meets.0

-- a number that is met has its place in the table
pub met_room : {P : Type 0} (n n' : ℕ) (were are : List P) (p : P) (k : ℕ) → MeetsIn n were p k n' are → n ≤ length were → k < length were
met_room n n' were are p k meets room =
    let front = length-take-le n were room in
    ⊎_elim
    (λ old. omega (arith, slice_get_within (take n were) k p old.0, front))
    (λ new. omega (arith, new.1, front, ap length new.2 ∙ length_push (take n were) p, length-take-le n' are meets.2, meets.2, meets.4))
    meets.0

module _ {P : Type 0} (first : P) (next : P → ℕ → P) (limit n row : ℕ) (points : List P) (moves : List ℕ) (p : P) (at : slice_get points row ≡ Some p) (early : row < n) where
  -- the row's point is still there
  there : (points' : List P) → take n points' ≡ take n points → slice_get points' row ≡ Some p
  there points' same = sym (front_at n points' row early) ∙ ap (λ ps. slice_get ps row) same ∙ front_at n points row early ∙ at

  front : (was is : List P) (n' n'' : ℕ) → n ≤ n' → take n' is ≡ take n' was → take n is ≡ take n was
  front was is n' n'' more same = sym (take-take n n' is more) ∙ ap (take n) same ∙ take-take n n' was more

  read_on : (n' n'' c k : ℕ) (points' points'' : List P) (moves' : List ℕ) → Reading first next limit n (256 * row) points moves n' (256 * row + c) points' moves' → n ≤ n' → c < 256 → 256 * row + c < length moves' → ((were : List P) (before : List ℕ) → n' ≤ length points' → length points' ≤ limit → slice_get points' row ≡ Some p → Progress first next n' (256 * row + c) were points' before moves' → MeetsIn n' points' (next p c) k n'' points'') → Reading first next limit n (256 * row) points moves n'' (256 * row + (c + 1)) points'' (slice_set moves' (256 * row + c) k)
  read_on n' n'' c k points' points'' moves' reading more byte room meets were before fit so_far =
      let read = reading were before fit so_far in
      let point = there points' read.1 in
      let many : n' ≤ length points' = within_room n' points' read.2.count in
      let met = meets were before many (let small = fit.1 in omega (arith, read.0)) point read.2 in
      (met.4 ∙ read.0, front points' points'' n' n'' more (kept_front n' n'' points' points'' (next p c) k met many) ∙ read.1, goes_on first next n' n'' row c k were points' points'' before moves' p read.2 (omega arith) byte point room met.1 met.2 met.0 met.3)

  module _ (n' c : ℕ) (points' : List P) (moves' : List ℕ) (reading : Reading first next limit n (256 * row) points moves n' (256 * row + c) points' moves') (more : n ≤ n') (byte : c < 256) where
    -- the move of a byte like this one is copied
    pub read_copied : (b k : ℕ) → 256 * row + c < length moves' → b < c → next p b ≡ next p c → slice_get moves' (256 * row + b) ≡ Some k → Reading first next limit n (256 * row) points moves n' (256 * row + (c + 1)) points' (slice_set moves' (256 * row + c) k)
    read_copied b k room before same moved =
        read_on n' n' c k points' points' moves' reading more byte room
        (λ were earlier many small point so_far.
        (like first next n' row c b k were points' earlier moves' p so_far before byte point same moved, omega arith, many, refl, refl))

    -- the byte's point is looked up, and its number written as an entry that holds it
    pub read_met : (n'' number k : ℕ) (points'' : List P) (q : P) → q ≡ next p c → 256 * row + c < length moves' → (n' ≤ length points' → MeetsIn n' points' q number n'' points'') → (number < limit → k ≡ number) → Reading first next limit n (256 * row) points moves n'' (256 * row + (c + 1)) points'' (slice_set moves' (256 * row + c) k)
    read_met n'' number k points'' q to room meets holds =
        read_on n' n'' c k points' points'' moves' reading more byte room
        (λ were earlier many small point so_far.
        let met : MeetsIn n' points' (next p c) number n'' points'' = rw (sym to) (meets many) in
        let held : k ≡ number = holds (omega (arith, met_room n' n'' points' points'' (next p c) number met many, small)) in
        rw held met)

    pub no_room : (q : P) → q ≡ next p c → (n' ≤ length points' → (Contains (take n' points') q → ⊥) × (n' ≡ length points')) → (were : List P) (before : List ℕ) → Fit limit points moves → Progress first next n (256 * row) were points before moves → MoreThan (length points) first next
    no_room q to none were before fit so_far =
        let read = reading were before fit so_far in
        let point = there points' read.1 in
        let end = none (within_room n' points' read.2.count) in
        rw (sym read.0) (full first next n' row c were points' before moves' p read.2 byte (omega arith) point end.1 (rw (sym to) end.0))
