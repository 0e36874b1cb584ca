-- Parts of a text that are stepped side by side, a lane to each. Only private functions cite it. Assumes nothing.
--
--   piece text part j i             the first i bytes of part j of the text, where a part has `part` bytes
--   Lanes moved n text part .. i    each lane, of eight, is where the first i bytes of its part lead from where it began; it is below n
use Rattle.std.specs.Prelude.{◌≡◌, ℕ, ◌+◌, ◌*◌, ◌<◌, List, length, slice_index, slice_range}
use Rattle.starts.specs.Automata.{led}

abbrev pub piece : List ℕ → ℕ → ℕ → ℕ → List ℕ
piece text part j i = slice_range text (part * j) (part * j + i)

pub record Lanes (moved : ℕ → ℕ → ℕ) (n : ℕ) (text : List ℕ) (part : ℕ) (from : List ℕ) (i : ℕ) (lanes : List ℕ) : Type 0 where
  pub long : length lanes ≡ 8
  pub low : (j : ℕ) → slice_index lanes j < n
  pub led_on : (j : ℕ) → j < 8 → slice_index lanes j ≡ led moved (piece text part j i) (slice_index from j)
