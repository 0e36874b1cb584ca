-- Two numberings of the same points agree at each number. Assumes nothing.
use Rattle.std.proofs.Common.{◌≡◌, ℕ, zero, suc, ◌+◌, ◌*◌, ◌<◌, ◌≤◌, ◌⊎◌, List, length, Some, sym, ap, ◌∙◌, ⊎_elim, arith}
use Rattle.std.specs.List.{slice_get}
use Rattle.std.proofs.lemmas.Bool.{cases_lt, cases_order, cases_eq}
use Rattle.std.proofs.lemmas.Option.{same_Some, slice_get_within, slice_get_past}
use Rattle.numbering.specs.Numbering.{Leads, Numbering}
use Rattle.numbering.proofs.Listing.{same_at_each}

module _ {P : Type 0} (first : P) (next : P → ℕ → P) where
  abbrev Agree : List P → List P → ℕ → Type 0
  Agree a b k = (j : ℕ) → j < k → slice_get a j ≡ slice_get b j

  -- of two that agree before k, the k-th of one, met from one of the first m pairs, is the k-th of the other
  met_in_both : (k m : ℕ) (a b : List P) → Numbering first next a → Numbering first next b → Agree a b k → 1 ≤ k → (s c : ℕ) → 256 * s + c < m → s < k → Leads next a s c k → slice_get a k ≡ slice_get b k
  met_in_both k zero a b in_a in_b agree pos s c lt early leads = absurd (omega arith)
  met_in_both k (suc m) a b in_a in_b agree pos s c lt early leads =
      let from : slice_get b s ≡ Some leads.point = sym (agree s early) ∙ leads.from in
      let t = in_b.closed s c (slice_get_within b s leads.point from) leads.byte in
      let there = t.1 in
      let point : there.point ≡ leads.point = same_Some there.point leads.point (sym there.from ∙ from) in
      let same : slice_get a k ≡ slice_get b t.0 = leads.to ∙ sym (there.to ∙ ap (λ p. Some (next p c)) point) in
      ⊎_elim
      (λ (is : t.0 ≡ k). same ∙ ap (slice_get b) is)
      (λ (apart : (t.0 < k) ⊎ (k < t.0)).
      ⊎_elim
      (λ (less : t.0 < k).
      let is : k ≡ t.0 = in_a.once k t.0 (next leads.point c) leads.to (agree t.0 less ∙ sym same ∙ leads.to) in
      absurd (omega arith))
      (λ (more : k < t.0).
      let o = in_b.ordered k t.0 s c pos more there in
      let earlier = o.3 in
      sym (met_in_both k m b a in_b in_a (λ j lt. sym (agree j lt)) pos o.0 o.1 (omega (arith, o.2)) (omega (arith, o.2, earlier.byte, leads.byte)) earlier))
      apart)
      (cases_order t.0 k)

  at_next : (k : ℕ) (a b : List P) → Numbering first next a → Numbering first next b → Agree a b k → 1 ≤ k → k < length a → slice_get a k ≡ slice_get b k
  at_next k a b in_a in_b agree pos lt =
      let m = in_a.met k pos lt in
      met_in_both k (suc (256 * m.0 + m.1)) a b in_a in_b agree pos m.0 m.1 (omega arith) m.2 m.3

  agree_at : (k : ℕ) (a b : List P) → Numbering first next a → Numbering first next b → Agree a b k → slice_get a k ≡ slice_get b k
  agree_at k a b in_a in_b agree =
      ⊎_elim
      (λ (start : k ≡ 0). ap (slice_get a) start ∙ in_a.begins ∙ sym in_b.begins ∙ sym (ap (slice_get b) start))
      (λ (later : k ≡ 0 → ⊥).
      ⊎_elim
      (λ (lt : k < length a). at_next k a b in_a in_b agree (omega arith) lt)
      (λ (past : length a ≤ k).
      ⊎_elim
      (λ (lt : k < length b). sym (at_next k b a in_b in_a (λ j lt. sym (agree j lt)) (omega arith) lt))
      (λ (past' : length b ≤ k). slice_get_past a k past ∙ sym (slice_get_past b k past'))
      (cases_lt k (length b)))
      (cases_lt k (length a)))
      (cases_eq k 0)

  agree_below : (a b : List P) → Numbering first next a → Numbering first next b → (k : ℕ) → Agree a b k
  agree_below a b in_a in_b zero j lt = absurd (omega arith)
  agree_below a b in_a in_b (suc k) j lt =
      ⊎_elim
      (λ (less : j < k). agree_below a b in_a in_b k j less)
      (λ (last : k ≤ j). let is : j ≡ k = omega arith in rw is (agree_at k a b in_a in_b (agree_below a b in_a in_b k)))
      (cases_lt j k)

  pub one_numbering : (a b : List P) → Numbering first next a → Numbering first next b → a ≡ b
  one_numbering a b in_a in_b = same_at_each a b (λ k. agree_below a b in_a in_b (suc k) k (omega arith))
