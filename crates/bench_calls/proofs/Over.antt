-- A text many times in a row. Assumes nothing.
use Rattle.std.proofs.Common.{◌≡◌, ℕ, zero, suc, ◌+◌, List, ◌++◌, ap, arith}
use Rattle.folding.specs.Texts.{Bytes}
use Rattle.folding.proofs.Texts.{bytes_append}
use Rattle.bench_calls.specs.Answers.{over}

pub over_more : (n : ℕ) (w : List ℕ) → over (n + 1) w ≡ over n w ++ w
unfolding over
over_more n w = let e : n + 1 ≡ suc n = omega arith in ap (λ k. over k w) e

pub bytes_over : (n : ℕ) (w : List ℕ) → Bytes w → Bytes (over n w)
unfolding over
bytes_over zero w bytes = tt
bytes_over (suc n) w bytes = bytes_append (over n w) w (bytes_over n w bytes) bytes
