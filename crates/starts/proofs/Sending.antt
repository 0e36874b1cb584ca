-- Maps of states entry by entry, and the maps that texts make. Assumes nothing.
use Rattle.std.proofs.Common.{◌≡◌, ℕ, ◌%◌, ◌<◌, ◌≤◌, cond, ltb, List, [], ◌∷◌, ◌++◌, map, sym, ap, ◌∙◌, ⊎_elim, arith}
use Rattle.std.specs.List.{range_with_len}
use Rattle.std.proofs.lemmas.Bool.{cases_lt, lt-ltb, le-ltb, cond-true, cond-false}
use Rattle.std.proofs.lemmas.List.FromFn.{get_or-map-range_with_len}
use Rattle.folding.specs.Texts.{Bytes}
use Rattle.starts.specs.Automata.{led}
use Rattle.starts.specs.Maps.{map_of, to, identity, composed, then_byte, made}
use Rattle.starts.proofs.Leading.{led_none, led_append, led_push, led_below}

pub same_maps : (k : ℕ) (f g : ℕ → ℕ) → ((s : ℕ) → s < k → f s ≡ g s) → map_of k f ≡ map_of k g
unfolding map_of
same_maps k f g same i = record { to = map (λ s. each s i) (range_with_len 0 64) }
  where
    each : (s : ℕ) → cond (ltb s k) (f s) 0 ≡ cond (ltb s k) (g s) 0
    each s =
        ⊎_elim
        (λ lt. ap (λ x. cond (ltb s k) x 0) (same s lt))
        (λ le. cond-false _ _ _ (le-ltb s k le) ∙ sym (cond-false _ _ _ (le-ltb s k le)))
        (cases_lt s k)

pub sends_at : (k : ℕ) → k ≤ 64 → (f : ℕ → ℕ) (s : ℕ) → s < k → f s < 64 → to (map_of k f) s ≡ f s
unfolding map_of
sends_at k few f s low fits =
    ap (λ x. x % 64) (get_or-map-range_with_len (λ s. cond (ltb s k) (f s) 0) 0 64 s s 0 (omega arith) (omega arith) ∙ cond-true _ _ _ (lt-ltb s k low))
    ∙ (let small : f s % 64 ≡ f s = omega arith in small)

module _ (k : ℕ) (moved : ℕ → ℕ → ℕ) (few : k ≤ 64) (closed : (s c : ℕ) → s < k → c < 256 → moved s c < k) where
  pub made_at : (w : List ℕ) (s : ℕ) → Bytes w → s < k → to (made k moved w) s ≡ led moved w s
  made_at w s bytes low = let within = led_below moved k closed w s bytes low in sends_at k few (led moved w) s low (omega arith)

  pub made_push : (w : List ℕ) (c : ℕ) → Bytes w → then_byte k moved (made k moved w) c ≡ made k moved (w ++ (c ∷ []))
  made_push w c bytes = same_maps k _ _ (λ s low. ap (λ t. moved t c) (made_at w s bytes low) ∙ sym (led_push moved w c s))

  pub made_joined : (v w : List ℕ) → Bytes v → Bytes w → composed k (made k moved v) (made k moved w) ≡ made k moved (v ++ w)
  made_joined v w v_bytes w_bytes =
      same_maps k _ _ (λ s low.
      ap (to (made k moved w)) (made_at v s v_bytes low)
      ∙ made_at w (led moved v s) w_bytes (led_below moved k closed v s v_bytes low)
      ∙ sym (led_append moved v w s))

pub made_none : (k : ℕ) (moved : ℕ → ℕ → ℕ) → identity k ≡ made k moved []
made_none k moved = same_maps k _ _ (λ s low. sym (led_none moved s))
