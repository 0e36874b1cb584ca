-- The automaton over the rest of a slice: how it moves on by a byte, and how it stops. Assumes nothing.
use Rattle.std.proofs.Common.{◌≡◌, ℕ, suc, ◌+◌, ◌-◌, ◌<◌, ◌≤◌, List, ◌∷◌, ◌++◌, length, get_or, take, drop, sym, ap, ◌∙◌, ⊎_elim, add-zero, arith, length-drop, take-append-drop}
use Rattle.std.proofs.lemmas.List.{drop_more, drop_all, drop-drop, get_or-drop, take_at, length-take-le}
use Rattle.std.proofs.lemmas.Bool.{cases_lt}
use Rattle.fault.specs.declared.Fault.{Fault}
use Rattle.fault.specs.declared.Refusal.TheVariants.{BadlyWritten}
use Rattle.notation.specs.Refusals.{Stops, refused}
use Rattle.notation.specs.Automaton.{State, Outcome, bad, dead, alive, step_of, finish, outcome_of}
use Rattle.notation.proofs.Runs.{outcome_alive, outcome_dead, outcome_end}

module _ (p : List ℕ) where
  pub drop_is : (at b : ℕ) → at < length p → get_or p at 0 ≡ b → drop at p ≡ b ∷ drop (at + 1) p
  drop_is at b lt is = drop_more p at 0 lt ∙ ap (λ x. x ∷ drop (at + 1) p) is

  -- what stands at `at`
  pub head_is : (at b : ℕ) (w : List ℕ) → drop at p ≡ b ∷ w → get_or p at 0 ≡ b
  head_is at b w is = ap (λ n. get_or p n 0) (sym (add-zero at)) ∙ sym (get_or-drop at p 0 0) ∙ ap (λ l. get_or l 0 0) is

  pub moves : (at b : ℕ) (s t : State) → at < length p → get_or p at 0 ≡ b → step_of s b ≡ alive t → outcome_of s (drop at p) ≡ outcome_of t (drop (at + 1) p)
  moves at b s t lt is goes = ap (outcome_of s) (drop_is at b lt is) ∙ outcome_alive s t b _ goes

  pub stops_inside : (at : ℕ) (s : State) → at < length p → step_of s (get_or p at 0) ≡ dead → outcome_of s (drop at p) ≡ bad (length p - at)
  stops_inside at s lt dies =
      let left : suc (length (drop (at + 1) p)) ≡ length p - at = simp length-drop (omega arith) in
      ap (outcome_of s) (drop_more p at 0 lt) ∙ outcome_dead s _ _ dies ∙ ap bad left

  pub stops_at : (at : ℕ) (s : State) → at ≤ length p → finish s ≡ bad 0 → (at < length p → step_of s (get_or p at 0) ≡ dead) → outcome_of s (drop at p) ≡ bad (length p - at)
  stops_at at s le end dies =
      ⊎_elim
      (λ (lt : at < length p). stops_inside at s lt (dies lt))
      (λ (ge : length p ≤ at).
      let none : 0 ≡ length p - at = omega arith in
      ap (outcome_of s) (drop_all at p ge) ∙ outcome_end s ∙ end ∙ ap bad none)
      (cases_lt at (length p))

  -- what a reader answers that stops at `at`
  pub stopped : (f : Fault) (at : ℕ) (o : Outcome) → f ≡ refused BadlyWritten at → at ≤ length p → o ≡ bad (length p - at) → Stops p f o
  stopped f at o is le stop =
      let place : f.place ≡ at = ap (λ x. x.place) is in
      record {
        is = is ∙ ap (refused BadlyWritten) (sym place);
        within = omega arith;
        unread = stop ∙ ap (λ n. bad (length p - n)) (sym place);
      }

  pub split_at : (at end : ℕ) → at ≤ end → drop at p ≡ take (end - at) (drop at p) ++ drop end p
  split_at at end le =
      let whole : at + (end - at) ≡ end = omega arith in
      sym (take-append-drop (end - at) (drop at p)) ∙ ap (λ l. take (end - at) (drop at p) ++ l) (drop-drop (end - at) at p ∙ ap (λ n. drop n p) whole)

  pub part_length : (at end : ℕ) → at ≤ end → end ≤ length p → at + length (take (end - at) (drop at p)) ≡ end
  part_length at end le within =
      let long : length (take (end - at) (drop at p)) ≡ end - at = length-take-le (end - at) (drop at p) (simp length-drop (omega arith)) in
      omega arith

  -- what a slice of p leaves
  pub slice_part : (at end : ℕ) → at ≤ end → end ≤ length p → drop at p ≡ take (end - at) (drop at p) ++ drop (at + length (take (end - at) (drop at p))) p
  slice_part at end le within = split_at at end le ∙ ap (λ n. take (end - at) (drop at p) ++ drop n p) (sym (part_length at end le within))

  -- the slice that begins as u does, and is as long
  pub slice_is : (at end : ℕ) (u rest : List ℕ) → drop at p ≡ u ++ rest → at + length u ≡ end → take (end - at) (drop at p) ≡ u
  slice_is at end u rest is long = let size : length u ≡ end - at = omega arith in ap (take (end - at)) is ∙ take_at u rest (end - at) size
