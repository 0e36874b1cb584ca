-- What a text does to the sets of a set machine whose moves simulate the place machine. Assumes nothing.
use Rattle.std.proofs.Common.{◌≡◌, ℕ, ◌+◌, ◌<◌, ◌≤◌, cond, ltb, length, set, List, [], ◌∷◌, ◌++◌, get_or, refl, sym, ap, subst, ◌∙◌, ⊎_elim, arith}
use Rattle.std.proofs.lemmas.List.{length-set, get_or-set_same, get_or-set_other}
use Rattle.std.proofs.lemmas.Bool.{cases_lt, cases_eq, cond_below, cond_above}
use Rattle.folding.specs.Texts.{Bytes}
use Rattle.machines.specs.declared.place.tables.Tables.{Tables}
use Rattle.machines.specs.declared.set.map.SetMap.{SetMap}
use Rattle.machines.specs.Place.Runs.{run}
use Rattle.starts.specs.Automata.{led}
use Rattle.machines.specs.Set.Maps.{to, composed}
use Rattle.starts.specs.Runs.{move_of}
use Rattle.machines.specs.Set.Runs.{moved_by, transformation}
use Rattle.machines.specs.Set.Shown.{moved_entry}
use Rattle.machines.specs.Set.Tables.{Simulates}
use Rattle.machines.proofs.SetLemmas.Composing.{map_by, map_at, length_map}
use Rattle.starts.proofs.Leading.{led_append}
use Rattle.machines.proofs.SetLemmas.Moving.{leg_at, leg_past}

-- the entries of `map` below `upto` are those of `at` sent on by the text, and the others are as they were
pub record Sent (n : ℕ) (moves text : List ℕ) (at map : SetMap) (upto : ℕ) : Type 0 where
  pub long : length map.to ≡ 64
  pub sent : (s : ℕ) → s < upto → to at s < n → to map s ≡ led (move_of moves) text (to at s)
  pub kept : (s : ℕ) → upto ≤ s → to map s ≡ to at s

-- one entry more
pub sent_more : (n : ℕ) (moves text : List ℕ) (at map map' : SetMap) (s number from x : ℕ) → Sent n moves text at map s → s < 64 → number ≡ s → from ≡ to at number → (from < n → x ≡ led (move_of moves) text from) → map' ≡ record { to = set map.to number x } → Sent n moves text at map' (s + 1)
sent_more n moves text at map map' s number from x so_far low is_s from_is x_is is =
    subst (λ m. Sent n moves text at m (s + 1)) (sym (is ∙ ap next is_s)) (record {
      long = length-set map.to s x ∙ so_far.long;
      sent = λ k below set_k.
          ⊎_elim
          (λ e. here k e set_k)
          (λ ne. get_or-set_other map.to s k x 0 ne ∙ so_far.sent k (omega arith) set_k)
          (cases_eq k s);
      kept = λ k above. get_or-set_other map.to s k x 0 (omega arith) ∙ so_far.kept k (omega arith);
    })
  where
    next : ℕ → SetMap
    next k = record { to = set map.to k x }

    here : (k : ℕ) → k ≡ s → to at k < n → to (next s) k ≡ led (move_of moves) text (to at k)
    here k e set_k =
        let same = from_is ∙ ap (to at) (is_s ∙ sym e) in
        let within : s < length map.to = (let long = so_far.long in omega arith) in
        ap (to (next s)) e ∙ get_or-set_same map.to s x 0 within ∙ x_is (subst (λ j. j < n) (sym same) set_k) ∙ ap (led (move_of moves) text) same

module _ (t : Tables) (n : ℕ) (sets moves : List ℕ) (simulates : Simulates t n sets moves) where
  -- a text leads from set to set as it does from the states of the one to those of the other
  pub led_set : (w : List ℕ) (s : ℕ) → Bytes w → s < n → (led (move_of moves) w s < n) × (get_or sets (led (move_of moves) w s) 0 ≡ run t w (get_or sets s 0))
  unfolding led run
  led_set [] s bytes low = (low, refl)
  led_set (c ∷ w) s bytes low =
      let (next, same) = simulates.5 s c low bytes.0 in
      let (last, runs) = led_set w _ bytes.1 next in
      (last, runs ∙ ap (run t w) same)

  -- taken as numbers of sets, the moves lead where they lead as entries
  pub same_led : (w : List ℕ) (s : ℕ) → Bytes w → s < n → led (moved_by moves) w s ≡ led (move_of moves) w s
  unfolding led
  same_led [] s bytes low = refl
  same_led (c ∷ w) s bytes low =
      let next = (simulates.5 s c low bytes.0).0 in
      ap (led (moved_by moves) w) (moved_entry t n sets moves simulates s c low bytes.0) ∙ same_led w _ bytes.1 next

  pub leg_set : (w : List ℕ) (s : ℕ) → Bytes w → s < n → (to (transformation n moves w) s < n) × (get_or sets (to (transformation n moves w) s) 0 ≡ run t w (get_or sets s 0))
  leg_set w s bytes low =
      let few = simulates.1 in
      subst (λ k. (k < n) × (get_or sets k 0 ≡ run t w (get_or sets s 0))) (sym (leg_at n moves w s (omega arith) low)) (led_set w s bytes low)

  -- a map is the leg of two texts joined if it moves by the second one where the leg of the first one leads
  joined_by : (v w : List ℕ) (m : SetMap) → length m.to ≡ 64 → ((s : ℕ) → s < 64 → s < n → to m s ≡ led (move_of moves) w (to (transformation n moves v) s)) → ((s : ℕ) → s < 64 → n ≤ s → to m s ≡ s) → m ≡ transformation n moves (v ++ w)
  joined_by v w m long below above =
      map_by (λ s. cond (ltb s n) (led (move_of moves) (v ++ w) s) s) m long
      (λ s low.
      ⊎_elim
      (λ lt. below s low lt ∙ ap (led (move_of moves) w) (leg_at n moves v s low lt) ∙ sym (led_append (move_of moves) v w s) ∙ cond_below s n _ _ lt)
      (λ le. cond_above s n _ s (to m s) le (above s low le))
      (cases_lt s n))

  pub leg_joined : (v w : List ℕ) → Bytes v → transformation n moves (v ++ w) ≡ composed (transformation n moves v) (transformation n moves w)
  leg_joined v w bytes =
      let f : ℕ → ℕ = λ s. to (transformation n moves w) (to (transformation n moves v) s) in
      sym
      (joined_by v w (composed (transformation n moves v) (transformation n moves w)) (length_map f)
      (λ s low lt.
      let few = simulates.1 in
      let lt' = (leg_set v s bytes lt).0 in
      map_at f s low ∙ leg_at n moves w (to (transformation n moves v) s) (omega arith) lt')
      (λ s low le. map_at f s low ∙ ap (to (transformation n moves w)) (leg_past n moves v s low le) ∙ leg_past n moves w s low le))

  pub sent_on : (v w : List ℕ) (at map : SetMap) (upto : ℕ) → Bytes v → at ≡ transformation n moves v → Sent n moves w at map upto → upto ≡ n → map ≡ transformation n moves (v ++ w)
  sent_on v w at map upto bytes is sent all =
      joined_by v w map sent.long
      (λ s low lt. sent.sent s (omega arith) (subst (λ m. to m s < n) (sym is) (leg_set v s bytes lt).0) ∙ ap (λ m. led (move_of moves) w (to m s)) is)
      (λ s low le. sent.kept s (omega arith) ∙ ap (λ m. to m s) is ∙ leg_past n moves v s low le)
