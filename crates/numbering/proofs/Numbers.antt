-- The laws of all numberings: there is one at most, its points are those reached, and there are more than n of them exactly if n + 1 texts
-- lead to different points. Assumes nothing.
use Rattle.std.proofs.Common.{◌≡◌, ℕ, ◌+◌, ◌<◌, ◌≤◌, List, [], ◌∷◌, length, map, take, Contains, Some, sym, ap, ◌∙◌, subst, arith}
use Rattle.std.specs.List.{slice_get}
use Rattle.std.proofs.lemmas.List.{length-map, length-take-le}
use Rattle.std.proofs.lemmas.Option.{same_Some, slice_get_within, get_or_from_slice_get}
use Rattle.folding.specs.Texts.{Bytes}
use Rattle.folding.proofs.Texts.{bytes_slot}
use Rattle.numbering.specs.Laws.{NumberingLaws}
use Rattle.numbering.specs.Numbering.{Numbering}
use Rattle.numbering.specs.Reaching.{after, Reached, MoreThan}
use Rattle.numbering.proofs.Agreeing.{one_numbering}
use Rattle.numbering.proofs.Fitting.{once_fits}
use Rattle.numbering.proofs.Listing.{contains_at, at_contains, at_front, map_at}
use Rattle.numbering.proofs.Meeting.{Once}
use Rattle.numbering.proofs.Reached.{AllReached, all_reached, many_reached}

module _ {P : Type 0} (first : P) (next : P → ℕ → P) (a : List P) (numbering : Numbering first next a) where
  -- a text leads from a point of the list to one of the list
  stays : (w : List ℕ) (i : ℕ) (p : P) → slice_get a i ≡ Some p → Bytes w → Contains a (after next p w)
  unfolding after
  stays [] i p at bytes = contains_at a i p at
  stays (c ∷ w) i p at bytes =
      let t = numbering.closed i c (slice_get_within a i p at) bytes.0 in
      let leads = t.1 in
      let point : leads.point ≡ p = same_Some leads.point p (sym leads.from ∙ at) in
      stays w t.0 (next p c) (leads.to ∙ ap (λ q. Some (next q c)) point) bytes.1

  reached_listed : (p : P) → Reached first next p → Contains a p
  reached_listed p reached = rw reached.2 (stays reached.0 0 first numbering.begins reached.1)

  listed : AllReached first next a
  listed = all_reached first next a numbering.begins numbering.met

  more_fit : (n : ℕ) → MoreThan n first next → n < length a
  more_fit n more =
      let reach : List ℕ → P = after next first in
      let once : Once (map reach more.texts) = λ i j p here there.
      let v = map_at reach more.texts i p here in
      let w = map_at reach more.texts j p there in
      more.differ i j v.0 w.0 v.1 w.1 (sym v.2 ∙ w.2) in
      let all : (k : ℕ) (p : P) → slice_get (map reach more.texts) k ≡ Some p → (j : ℕ) × (slice_get a j ≡ Some p) = λ k p at.
      let w = map_at reach more.texts k p at in
      let bytes : Bytes w.0 = subst Bytes (get_or_from_slice_get more.texts k w.0 [] w.1) (bytes_slot more.texts k more.bytes) in
      at_contains a p (reached_listed p (w.0, bytes, w.2)) in
      let fits : length (map reach more.texts) ≤ length a = once_fits (map reach more.texts) a once all in
      omega (arith, length-map more.texts reach, more.many)

  fit_more : (n : ℕ) → n < length a → MoreThan n first next
  fit_more n lt =
      many_reached first next (take (n + 1) a) n (length-take-le (n + 1) a (omega arith))
      (λ i j p here there. numbering.once i j p (at_front (n + 1) a i p here) (at_front (n + 1) a j p there))
      (λ k p at. listed k p (at_front (n + 1) a k p at))

pub numbering_laws : {P : Type 0} (first : P) (next : P → ℕ → P) → NumberingLaws first next
numbering_laws first next = record {
  one = one_numbering first next;
  reached = λ a numbering p. (λ has. let at = at_contains a p has in listed first next a numbering at.0 p at.1, reached_listed first next a numbering p);
  more = λ a numbering n. (more_fit first next a numbering n, fit_more first next a numbering n);
}
