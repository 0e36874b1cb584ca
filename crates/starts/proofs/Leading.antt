-- Where texts lead by single moves. Assumes nothing.
use Rattle.std.proofs.Common.{◌≡◌, ℕ, suc, ◌+◌, ◌<◌, ◌≤◌, List, [], ◌∷◌, ◌++◌, length, drop, drop-cons, get_or, refl, sym, ap, ap₂, ◌∙◌, arith}
use Rattle.std.proofs.Math.ListN.{drop_of_length-le}
use Rattle.folding.specs.Texts.{Bytes}
use Rattle.starts.specs.Automata.{led}

pub led_none : (moved : ℕ → ℕ → ℕ) (s : ℕ) → led moved [] s ≡ s
unfolding led
led_none moved s = refl

pub led_append : (moved : ℕ → ℕ → ℕ) (v w : List ℕ) (s : ℕ) → led moved (v ++ w) s ≡ led moved w (led moved v s)
unfolding led
led_append moved [] w s = refl
led_append moved (c ∷ v) w s = led_append moved v w (moved s c)

pub led_push : (moved : ℕ → ℕ → ℕ) (w : List ℕ) (c s : ℕ) → led moved (w ++ (c ∷ [])) s ≡ moved (led moved w s) c
unfolding led
led_push moved [] c s = refl
led_push moved (b ∷ w) c s = led_push moved w c (moved s b)

-- texts never lead out of what no byte leads out of
pub led_below : (moved : ℕ → ℕ → ℕ) (k : ℕ) → ((s c : ℕ) → s < k → c < 256 → moved s c < k) → (w : List ℕ) (s : ℕ) → Bytes w → s < k → led moved w s < k
unfolding led
led_below moved k closed [] s bytes low = low
led_below moved k closed (c ∷ w) s bytes low = led_below moved k closed w (moved s c) bytes.1 (closed s c low bytes.0)

-- what is left of a text leads on from where its first byte leads
pub led_more : (moved : ℕ → ℕ → ℕ) (text : List ℕ) (i at next : ℕ) → i < length text → next ≡ moved at (get_or text i 0) → led moved (drop (i + 1) text) next ≡ led moved (drop i text) at
unfolding led
led_more moved text i at next lt is =
    ap₂ (led moved) (ap (λ j. drop j text) (let one : i + 1 ≡ suc i = omega arith in one)) is ∙ ap (λ w. led moved w at) (sym (drop-cons text i 0 lt))

pub led_all : (moved : ℕ → ℕ → ℕ) (text : List ℕ) (i at : ℕ) → length text ≤ i → at ≡ led moved (drop i text) at
unfolding led
led_all moved text i at le = ap (λ w. led moved w at) (sym (drop_of_length-le text le))
