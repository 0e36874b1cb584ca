-- 16-bit numbers, and sums of them, in parts of a list. Assumes nothing.
use Rattle.std.proofs.Common.{◌≡◌, ℕ, zero, suc, ◌+◌, ◌*◌, ◌/◌, ◌%◌, ◌<◌, ◌≤◌, List, [], ◌∷◌, ◌++◌, length, get_or, take, drop, sym, refl, ap, ◌∙◌, add-zero, add_assoc, arith}
use native.Mathlib.Nat.{div-add-mod}
use Rattle.std.proofs.lemmas.List.{get_or-take, get_or-drop, drop_at}
use Rattle.bundle.specs.Layout.{size16}
use Rattle.bundle.specs.Sizes.{word16, sum16}

pub size_word : (a b : ℕ) → a < 256 → b < 256 → size16 (256 * a + b) ≡ a ∷ b ∷ []
size_word a b ha hb =
    let high : (256 * a + b) / 256 ≡ a = omega arith in
    let low : (256 * a + b) % 256 ≡ b = omega arith in
    cc

pub word_size : (n : ℕ) → 256 * (n / 256) + n % 256 ≡ n
word_size n = div-add-mod n 256

word_drop : (j : ℕ) (bs : List ℕ) (i : ℕ) → word16 (drop j bs) i ≡ word16 bs (j + i)
word_drop j bs i =
    let high = get_or-drop j bs i 0 in
    let low = get_or-drop j bs (i + 1) 0 ∙ ap (λ k. get_or bs k 0) (sym (add_assoc j i 1)) in
    omega (arith, high, low)

pub sum_drop : (j : ℕ) (bs : List ℕ) (i n : ℕ) → sum16 (drop j bs) i n ≡ sum16 bs (j + i) n
sum_drop j bs i zero = refl
sum_drop j bs i (suc n) =
    let first = word_drop j bs i in
    let others = sum_drop j bs (i + 2) n ∙ ap (λ k. sum16 bs k n) (sym (add_assoc j i 2)) in
    omega (arith, first, others)

pub sum_take : (m : ℕ) (bs : List ℕ) (i n : ℕ) → i + 2 * n ≤ m → sum16 (take m bs) i n ≡ sum16 bs i n
sum_take m bs i zero h = refl
sum_take m bs i (suc n) h =
    let high = get_or-take m bs i 0 (omega arith) in
    let low = get_or-take m bs (i + 1) 0 (omega arith) in
    let others = sum_take m bs (i + 2) n (omega arith) in
    omega (arith, high, low, others)

-- the first number, and those after it
pub sum_step : (bs : List ℕ) (n : ℕ) → sum16 bs 0 (suc n) ≡ word16 bs 0 + sum16 (drop 2 bs) 0 n
sum_step bs n = ap (λ k. word16 bs 0 + k) (sym (sum_drop 2 bs 0 n))

pub sum_past : (xs bs : List ℕ) (i n : ℕ) → length xs ≡ i → sum16 (xs ++ bs) i n ≡ sum16 bs 0 n
sum_past xs bs i n e =
    ap (λ k. sum16 (xs ++ bs) k n) (sym (add-zero i)) ∙ sym (sum_drop i (xs ++ bs) 0 n) ∙ ap (λ l. sum16 l 0 n) (drop_at xs bs i e)

-- one number less is left to add; j and m are as a loop writes them
pub sum_next : (bs : List ℕ) (i j k m : ℕ) → k ≡ suc m → i + 2 ≡ j → sum16 bs i k ≡ word16 bs i + sum16 bs j m
sum_next bs i j k m e f = ap (sum16 bs i) e ∙ ap (λ x. word16 bs i + sum16 bs x m) f
