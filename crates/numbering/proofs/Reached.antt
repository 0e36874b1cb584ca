-- Points that an earlier one leads to are reached by texts, and as many different ones are reached as stand in a list. Assumes nothing.
use Rattle.std.proofs.Common.{◌≡◌, ℕ, zero, suc, ◌+◌, ◌<◌, List, [], ◌∷◌, ◌++◌, length, map, Some, refl, sym, ap, ◌∙◌, ⊎_elim, arith}
use Rattle.std.specs.List.{slice_get}
use Rattle.std.proofs.lemmas.Bool.{cases_eq}
use Rattle.std.proofs.lemmas.List.{length-map}
use Rattle.std.proofs.lemmas.Option.{same_Some, slice_get_within}
use Rattle.folding.specs.Texts.{AllBytes}
use Rattle.folding.proofs.Texts.{bytes_append}
use Rattle.numbering.specs.Reaching.{after, Reached, MoreThan}
use Rattle.numbering.proofs.Listing.{at_map}
use Rattle.numbering.proofs.Meeting.{Once, Led}

abbrev pub AllReached : {P : Type 0} → P → (P → ℕ → P) → List P → Type 0
AllReached {P} first next ps = (k : ℕ) (p : P) → slice_get ps k ≡ Some p → Reached first next p

module _ {P : Type 0} (first : P) (next : P → ℕ → P) where
  after_push : (p : P) (w : List ℕ) (c : ℕ) → after next p (w ++ (c ∷ [])) ≡ next (after next p w) c
  unfolding after
  after_push p [] c = refl
  after_push p (b ∷ w) c = after_push (next p b) w c

  reached_start : Reached first next first
  unfolding after
  reached_start = ([], tt, refl)

  reached_next : (p : P) (c : ℕ) → c < 256 → Reached first next p → Reached first next (next p c)
  reached_next p c byte reached = (reached.0 ++ (c ∷ []), bytes_append reached.0 (c ∷ []) reached.1 (byte, tt), ap (λ q. next q c) reached.2 ∙ sym (after_push first reached.0 c))

  reached_below : (ps : List P) → slice_get ps 0 ≡ Some first → Led next ps → (n k : ℕ) (p : P) → k < n → slice_get ps k ≡ Some p → Reached first next p
  reached_below ps begins led zero k p lt at = absurd (omega arith)
  reached_below ps begins led (suc n) k p lt at =
      ⊎_elim
      (λ (start : k ≡ 0).
      let is : first ≡ p = same_Some first p (sym begins ∙ ap (slice_get ps) (sym start) ∙ at) in
      rw (← is) reached_start)
      (λ (later : k ≡ 0 → ⊥).
      let l = led k (omega arith) (slice_get_within ps k p at) in
      let leads = l.3 in
      let is : next leads.point l.1 ≡ p = same_Some (next leads.point l.1) p (sym leads.to ∙ at) in
      rw (← is) (reached_next leads.point l.1 leads.byte (reached_below ps begins led n l.0 leads.point (omega (arith, l.2)) leads.from)))
      (cases_eq k 0)

  pub all_reached : (ps : List P) → slice_get ps 0 ≡ Some first → Led next ps → AllReached first next ps
  all_reached ps begins led k p at = reached_below ps begins led (suc k) k p (omega arith) at

  -- a text for each point
  texts_for : (ps : List P) → AllReached first next ps → (ts : List (List ℕ)) × AllBytes ts × (map (after next first) ts ≡ ps)
  texts_for [] reached = ([], tt, refl)
  texts_for (p ∷ ps) reached =
      let r = reached 0 p refl in
      let rest = texts_for ps (λ k q at. reached (suc k) q at) in
      (r.0 ∷ rest.0, (r.1, rest.1), cc (r.2, rest.2))

  pub many_reached : (ps : List P) (n : ℕ) → length ps ≡ n + 1 → Once ps → AllReached first next ps → MoreThan n first next
  many_reached ps n long once reached =
      let t = texts_for ps reached in
      let at = λ (i : ℕ) (v : List ℕ) (here : slice_get t.0 i ≡ Some v). sym (ap (λ l. slice_get l i) t.2) ∙ at_map (after next first) t.0 i v here in
      record {
        texts = t.0;
        bytes = t.1;
        many = sym (length-map t.0 (after next first)) ∙ ap length t.2 ∙ long;
        differ = λ i j v w here there same. once i j (after next first v) (at i v here) (at j w there ∙ ap Some (sym same));
      }
