-- What texts do over tables that lead from map to map as the bytes do. Assumes nothing.
use Rattle.std.proofs.Common.{◌≡◌, ℕ, ◌%◌, ◌<◌, ◌≤◌, List, [], ◌∷◌, ◌++◌, sym, ap, ap₂, subst, ◌∙◌, append_assoc, arith}
use Rattle.std.proofs.lemmas.List.{append-nil}
use Rattle.folding.specs.Texts.{Bytes}
use Rattle.folding.proofs.Gathering.{associative}
use Rattle.folding.proofs.Texts.{bytes_append}
use Rattle.starts.specs.Automata.{led}
use Rattle.starts.specs.Maps.{to, composed, then_byte, made}
use Rattle.starts.specs.Runs.{move_of, leg, StartBuilt}
use Rattle.starts.specs.Starts.{row, Follows}
use Rattle.starts.specs.declared.statemap.StateMap.{StateMap}
use Rattle.starts.proofs.Leading.{led_below}
use Rattle.starts.proofs.Sending.{made_none, made_push, made_joined, made_at}

-- the leg of a text is a start of the table
pub leg_low : (k : ℕ) (moved : ℕ → ℕ → ℕ) (n : ℕ) (maps moves : List ℕ) → Follows k moved n maps moves → (w : List ℕ) → Bytes w → (at : ℕ) → at ≡ leg moves w → at < n
leg_low k moved n maps moves follows w bytes at is =
    subst (λ r. r < n) (sym is) (led_below (move_of moves) n (λ r c low byte. (follows.5 r c low byte).0) w 0 bytes follows.0)

same_map : (a b : StateMap) → a.to ≡ b.to → a ≡ b
same_map a b same = ap (λ t. record { to = t }) same

module _ (k : ℕ) (moved : ℕ → ℕ → ℕ) (n : ℕ) (maps moves : List ℕ) (few : (1 ≤ k) × (k ≤ 64)) (closed : (s c : ℕ) → s < k → c < 256 → moved s c < k) (follows : Follows k moved n maps moves) where
  -- a text leads on from the row of the map that another makes
  leads_on : (w v : List ℕ) (r : ℕ) → Bytes v → Bytes w → r < n → row maps r ≡ made k moved v → (led (move_of moves) w r < n) × (row maps (led (move_of moves) w r) ≡ made k moved (v ++ w))
  unfolding led
  leads_on [] v r v_bytes bytes low is = (low, is ∙ ap (made k moved) (sym (append-nil v)))
  leads_on (c ∷ w) v r v_bytes bytes low is =
      let (next, same) = follows.5 r c low bytes.0 in
      let one : row maps (move_of moves r c) ≡ made k moved (v ++ (c ∷ [])) = same_map _ _ same ∙ ap (λ m. then_byte k moved m c) is ∙ made_push k moved few.1 closed v c v_bytes in
      let (last, there) = leads_on w (v ++ (c ∷ [])) _ (bytes_append v (c ∷ []) v_bytes (bytes.0, tt)) bytes.1 next one in
      (last, there ∙ ap (made k moved) (append_assoc v (c ∷ []) w))

  pub leg_makes : (w : List ℕ) → Bytes w → (leg moves w < n) × (row maps (leg moves w) ≡ made k moved w)
  leg_makes w bytes = leads_on w [] 0 tt bytes follows.0 (same_map _ _ follows.4 ∙ made_none k moved)

  pub leg_joined : (v w : List ℕ) → Bytes v → Bytes w → row maps (leg moves (v ++ w)) ≡ composed k (row maps (leg moves v)) (row maps (leg moves w))
  leg_joined v w v_bytes w_bytes =
      (leg_makes (v ++ w) (bytes_append v w v_bytes w_bytes)).1
      ∙ sym (made_joined k moved few.1 closed v w v_bytes w_bytes)
      ∙ sym (ap₂ (composed k) (leg_makes v v_bytes).1 (leg_makes w w_bytes).1)

  pub leg_one : (v w : List ℕ) → Bytes v → Bytes w → made k moved v ≡ made k moved w → leg moves v ≡ leg moves w
  leg_one v w v_bytes w_bytes same =
      let (v_low, v_makes) = leg_makes v v_bytes in
      let (w_low, w_makes) = leg_makes w w_bytes in
      follows.6 (leg moves v) (leg moves w) v_low w_low (ap (λ m. m.to) (v_makes ∙ same ∙ sym w_makes))

  -- what is composed of the maps of two legs is that of the leg of both texts
  pub leg_composed : (v w : List ℕ) → Bytes v → Bytes w → (states : ℕ) (first second both : StateMap) → states ≡ k → first ≡ row maps (leg moves v) → second ≡ row maps (leg moves w) → both ≡ composed states first second → both ≡ row maps (leg moves (v ++ w))
  leg_composed v w v_bytes w_bytes states first second both count v_is w_is is =
      is ∙ ap (λ j. composed j first second) count ∙ ap₂ (composed k) v_is w_is ∙ sym (leg_joined v w v_bytes w_bytes)

  -- the map of a text's leg sends state 0 to where the text leads from it
  pub leg_state : (w : List ℕ) → Bytes w → (m : StateMap) (index number : ℕ) → m ≡ row maps (leg moves w) → index ≡ to m 0 → number ≡ index % 64 → number ≡ led moved w 0
  leg_state w bytes m index number is sent named =
      let within = led_below moved k closed w 0 bytes few.0 in
      let there : to m 0 ≡ led moved w 0 = ap (λ m. to m 0) (is ∙ (leg_makes w bytes).1) ∙ made_at k moved few.1 closed w 0 bytes few.0 in
      omega arith

  pub built : (M : List ℕ → Type 0) → StartBuilt k moved n maps M M (leg moves)
  built M = record {
    within = λ w bytes. (leg_makes w bytes).0;
    makes = λ w bytes. (leg_makes w bytes).1;
    means = λ w bytes. (λ m. m, λ m. m);
    joins = leg_joined;
    associative = associative (leg moves);
    one = leg_one;
  }
