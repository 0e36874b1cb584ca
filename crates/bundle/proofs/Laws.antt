-- The two laws of the layout. Assumes nothing.
use Rattle.std.proofs.Common.{◌≡◌, ℕ, ◌+◌, ◌*◌, List, ◌++◌, length, get_or, take, drop, sym, refl, ap, ◌∙◌, arith}
use Rattle.std.proofs.lemmas.List.{length-append, length-map, take_at, drop_at}
use Rattle.bundle.specs.Cuts.{cut}
use Rattle.bundle.specs.Laws.{OneReading, Granted}
use Rattle.bundle.specs.Layout.{Piece, size16, slots, lengths, texts, written}
use Rattle.bundle.specs.Sizes.{count, sum16}
use Rattle.bundle.proofs.Cuts.{length_lengths, sum_lengths, cut_joined}
use Rattle.bundle.proofs.Words.{word_size, sum_past}

front_same : (xs us ys vs : List ℕ) → length xs ≡ length us → xs ++ ys ≡ us ++ vs → xs ≡ us
front_same xs us ys vs long e =
    sym (take_at xs ys (length us) long) ∙ ap (take (length us)) e ∙ take_at us vs (length us) refl

back_same : (xs us ys vs : List ℕ) → length xs ≡ length us → xs ++ ys ≡ us ++ vs → ys ≡ vs
back_same xs us ys vs long e =
    sym (drop_at xs ys (length us) long) ∙ ap (drop (length us)) e ∙ drop_at us vs (length us) refl

long_slots : (ss : List Piece) → length (slots ss) ≡ length ss
long_slots ss = length-map ss (λ s. s.slot)

pub one_reading : OneReading
one_reading p q ss ts e =
    let head = λ (i : ℕ). ap (λ l. get_or l i 0) e in
    let many : length ss ≡ length ts = omega (arith, head 0, head 1, word_size (length ss), word_size (length ts)) in
    let long : length p ≡ length q = omega (arith, head 2, head 3, word_size (length p), word_size (length q)) in
    let body = ap (drop 4) e in
    let same_slots = long_slots ss ∙ many ∙ sym (long_slots ts) in
    let same_lengths : length (lengths ss) ≡ length (lengths ts) = omega (arith, length_lengths ss, length_lengths ts) in
    let a = front_same (slots ss) (slots ts) _ _ same_slots body in
    let body₁ = back_same (slots ss) (slots ts) _ _ same_slots body in
    let b = front_same (lengths ss) (lengths ts) _ _ same_lengths body₁ in
    let body₂ = back_same (lengths ss) (lengths ts) _ _ same_lengths body₁ in
    let c = back_same p q _ _ long body₂ in
    (front_same p q _ _ long body₂, sym (cut_joined ss) ∙ (λ i. cut (a i) (b i) (c i)) ∙ cut_joined ts)

length_written : (p : List ℕ) (ss : List Piece) → length (written p ss) ≡ 4 + 3 * length ss + length p + length (texts ss)
length_written p ss =
    omega (arith, long_slots ss, length_lengths ss, length-append (slots ss) (lengths ss ++ (p ++ texts ss)), length-append (lengths ss) (p ++ texts ss), length-append p (texts ss))

sum_written : (p : List ℕ) (ss : List Piece) → sum16 (written p ss) (4 + length ss) (length ss) ≡ length (texts ss)
sum_written p ss =
    let head = size16 (length ss) ++ (size16 (length p) ++ slots ss) in
    let tail = p ++ texts ss in
    sum_past head (lengths ss ++ tail) (4 + length ss) (length ss) (omega (arith, long_slots ss)) ∙ sum_lengths ss tail

pub granted : Granted
granted p ss short =
    let many : count (written p ss) ≡ length ss = word_size (length ss) in
    let sums = ap (λ n. sum16 (written p ss) (4 + n) n) many ∙ sum_written p ss in
    (omega (arith, length_written p ss, many, word_size (length p), sums), short)
