-- A search goes on from pair to pair of number and byte, and ends with the numbering. Assumes nothing.
use Rattle.std.proofs.Common.{◌≡◌, ℕ, ◌+◌, ◌-◌, ◌*◌, ◌/◌, ◌%◌, ◌<◌, ◌≤◌, List, [], ◌∷◌, ◌++◌, length, take, drop, Contains, Some, refl, sym, ap, ◌∙◌, subst, ⊎_elim, inl, inr, arith}
use Rattle.std.specs.Prelude.{slice_set}
use Rattle.std.specs.List.{slice_get}
use Rattle.std.proofs.lemmas.List.{length-take-le, take_more_set, drop-set-lt, drop-drop, length_push}
use Rattle.std.proofs.lemmas.Option.{none-some, same_Some, slice_get_within}
use Rattle.numbering.specs.Numbering.{Leads}
use Rattle.numbering.specs.Filling.{Fills}
use Rattle.numbering.specs.Reaching.{MoreThan}
use Rattle.numbering.specs.Searching.{Sofar, Progress, Meets}
use Rattle.numbering.proofs.Listing.{at_front, front_at}
use Rattle.numbering.proofs.Meeting.{first_met, meets_one, so_far_led, moves_at, numbers}
use Rattle.numbering.proofs.Reached.{all_reached, many_reached}

-- two lists that are the same behind n are so behind a later number
drop_later : {X : Type 0} (n m : ℕ) (xs ys : List X) → n ≤ m → drop n xs ≡ drop n ys → drop m xs ≡ drop m ys
drop_later n m xs ys le same =
    let whole : n + (m - n) ≡ m = omega arith in
    ap (λ k. drop k xs) (sym whole) ∙ sym (drop-drop (m - n) n xs) ∙ ap (drop (m - n)) same ∙ drop-drop (m - n) n ys ∙ ap (λ k. drop k ys) whole

module _ {P : Type 0} (first : P) (next : P → ℕ → P) where
  -- the first point is met in tables in which nothing is met yet
  pub begun : (n k : ℕ) (were are : List P) (moves : List ℕ) → Meets (take 0 were) first k (take n are) → n ≤ length are → drop n are ≡ drop n were → Progress first next n 0 were are moves moves
  begun n k were are moves meets room rest =
      ⊎_elim
      (λ (old : (slice_get [] k ≡ Some first) × (take n are ≡ [])). absurd (none-some first old.0))
      (λ (new : (Contains [] first → ⊥) × (k ≡ 0) × (take n are ≡ first ∷ [])). record {
        count = length-take-le n are room;
        moved = refl;
        so_far = rw new.2 (first_met first next);
        rest = rest;
        others = refl;
      })
      meets

  -- the points and the moves with it, whatever the tables
  one_more : (n row c k : ℕ) (were are : List P) (before after : List ℕ) (p : P) (met : List P) → Progress first next n (256 * row + c) were are before after → row < n → c < 256 → slice_get are row ≡ Some p → Meets (take n are) (next p c) k met → Sofar first next met (take (256 * row + c) after ++ (k ∷ []))
  one_more n row c k were are before after p met progress row_in byte at meets =
      let moves : List ℕ = take (256 * row + c) after in
      let which : length moves / 256 ≡ row = rw progress.moved (omega arith) in
      let what : length moves % 256 ≡ c = rw progress.moved (omega arith) in
      let there : slice_get (take n are) row ≡ Some p = front_at n are row row_in ∙ at in
      meets_one first next (take n are) moves met k p progress.so_far (rw which there) (rw what meets)

  -- the next pair of number and byte leads to the point of this number
  pub goes_on : (n n' row c k : ℕ) (were are is : List P) (before after : List ℕ) (p : P) → Progress first next n (256 * row + c) were are before after → row < n → c < 256 → slice_get are row ≡ Some p → 256 * row + c < length after → n ≤ n' → n' ≤ length is → Meets (take n are) (next p c) k (take n' is) → drop n' is ≡ drop n' are → Progress first next n' (256 * row + (c + 1)) were is before (slice_set after (256 * row + c) k)
  goes_on n n' row c k were are is before after p progress row_in byte at room more long meets rest =
      let m : ℕ = 256 * row + c in
      let on : 256 * row + (c + 1) ≡ m + 1 = omega arith in
      let next_moves : take (m + 1) (slice_set after m k) ≡ take m after ++ (k ∷ []) = take_more_set after m k room in
      rw on record {
        count = length-take-le n' is long;
        moved = ap length next_moves ∙ length_push (take m after) k ∙ ap (λ j. j + 1) progress.moved;
        so_far = rw next_moves (one_more n row c k were are before after p (take n' is) progress row_in byte at meets);
        rest = rest ∙ drop_later n n' are were more progress.rest;
        others = drop-set-lt (m + 1) after m k (omega arith) ∙ drop_later m (m + 1) after before (omega arith) progress.others;
      }

  -- a byte like an earlier one leads where that one leads
  pub like : (n row c b k : ℕ) (were are : List P) (before after : List ℕ) (p : P) → Progress first next n (256 * row + c) were are before after → b < c → c < 256 → slice_get are row ≡ Some p → next p b ≡ next p c → slice_get after (256 * row + b) ≡ Some k → Meets (take n are) (next p c) k (take n are)
  like n row c b k were are before after p progress earlier byte at same moved =
      let there : slice_get (take (256 * row + c) after) (256 * row + b) ≡ Some k = front_at (256 * row + c) after (256 * row + b) (omega arith) ∙ moved in
      let leads : Leads next (take n are) ((256 * row + b) / 256) ((256 * row + b) % 256) k = progress.so_far.leads (256 * row + b) k there in
      let which : (256 * row + b) / 256 ≡ row = omega arith in
      let what : (256 * row + b) % 256 ≡ b = omega arith in
      let from : slice_get are row ≡ Some leads.point = at_front n are row leads.point (subst (λ (s : ℕ). slice_get (take n are) s ≡ Some leads.point) which leads.from) in
      let point : leads.point ≡ p = same_Some leads.point p (sym from ∙ at) in
      inl (leads.to ∙ ap Some (ap (next leads.point) what ∙ ap (λ x. next x b) point ∙ same), refl)

  -- there is no room for a new point
  pub full : (n row c : ℕ) (were are : List P) (before after : List ℕ) (p : P) → Progress first next n (256 * row + c) were are before after → c < 256 → row < n → slice_get are row ≡ Some p → n ≡ length are → (Contains (take n are) (next p c) → ⊥) → MoreThan (length are) first next
  full n row c were are before after p progress byte row_in at all new =
      let points : List P = take n are ++ (next p c ∷ []) in
      let met : Sofar first next points (take (256 * row + c) after ++ (length (take n are) ∷ [])) = one_more n row c (length (take n are)) were are before after p points progress row_in byte at (inr (new, refl, refl)) in
      let many : length points ≡ length are + 1 = length_push (take n are) (next p c) ∙ ap (λ j. j + 1) (progress.count ∙ all) in
      many_reached first next points (length are) many met.once (all_reached first next points met.begins (so_far_led first next points _ met))

  -- not even for the first
  pub none : MoreThan 0 first next
  none = record {
    texts = [] ∷ [];
    bytes = (tt, tt);
    many = refl;
    differ = λ i j v w here there _. omega (arith, slice_get_within ([] ∷ []) i v here, slice_get_within ([] ∷ []) j w there);
  }

  -- each point's bytes are read
  pub finished : (n : ℕ) (were are : List P) (before after : List ℕ) → Progress first next n (256 * n) were are before after → Fills first next n were are before after
  finished n were are before after progress =
      let all : length (take (256 * n) after) ≡ 256 * length (take n are) = omega (arith, progress.count, progress.moved) in
      record {
        count = progress.count;
        numbers = numbers first next (take n are) (take (256 * n) after) progress.so_far all;
        moved = moves_at first next (take n are) (take (256 * n) after) progress.so_far all;
        rest = progress.rest;
        others = progress.others;
      }
