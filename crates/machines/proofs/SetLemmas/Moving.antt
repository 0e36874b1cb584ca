-- Where texts lead by the moves of a set machine, entry by entry of its legs. Assumes nothing.
use Rattle.std.proofs.Common.{◌≡◌, ℕ, ◌+◌, ◌*◌, ◌<◌, ◌≤◌, cond, ltb, List, [], ◌∷◌, get_or, refl, ◌∙◌}
use Rattle.std.proofs.lemmas.Bool.{lt-ltb, le-ltb, cond-true, cond-false, cond_both}
use Rattle.machines.specs.Set.Maps.{to, identity}
use Rattle.starts.specs.Automata.{led}
use Rattle.starts.specs.Runs.{move_of}
use Rattle.machines.specs.Set.Runs.{transformation}
use Rattle.machines.proofs.SetLemmas.Composing.{map_at, same_maps}

pub led_one : (moves : List ℕ) (c s : ℕ) → led (move_of moves) (c ∷ []) s ≡ get_or moves (256 * s + c) 0
unfolding led
led_one moves c s = refl

module _ (n : ℕ) (moves w : List ℕ) (s : ℕ) (low : s < 64) where
  -- what a leg has where there is a set, and where there is none
  pub leg_at : s < n → to (transformation n moves w) s ≡ led (move_of moves) w s
  leg_at lt = map_at (λ s. cond (ltb s n) (led (move_of moves) w s) s) s low ∙ cond-true _ _ _ (lt-ltb s n lt)

  pub leg_past : n ≤ s → to (transformation n moves w) s ≡ s
  leg_past le = map_at (λ s. cond (ltb s n) (led (move_of moves) w s) s) s low ∙ cond-false _ _ _ (le-ltb s n le)

pub leg_none : (n : ℕ) (moves : List ℕ) → identity ≡ transformation n moves []
unfolding led
leg_none n moves = same_maps (λ s. s) (λ s. cond (ltb s n) s s) (λ s low. cond_both (ltb s n) s s (λ x. s ≡ x) (λ yes. refl) (λ no. refl))
