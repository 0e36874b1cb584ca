-- The parts of an input are made of bytes, and those of a bundle, written again, are the bundle. Assumes nothing.
use Rattle.std.proofs.Common.{◌≡◌, ℕ, ◌+◌, ◌*◌, ◌<◌, ◌≤◌, List, [], ◌∷◌, ◌++◌, length, get_or, take, drop, sym, refl, ap, ◌∙◌, add-zero, arith}
use Rattle.std.specs.List.{AllByRecursion}
use Rattle.std.proofs.ByRecursion.{All-get_or, All-take, All-drop}
use Rattle.std.proofs.lemmas.List.{length-drop, length-take-le, take-append-drop}
use Rattle.folding.specs.Texts.{Bytes}
use Rattle.bundle.specs.Cuts.{cut}
use Rattle.bundle.specs.Layout.{OfBytes, size16, written}
use Rattle.bundle.specs.Sizes.{word16, sum16, count, pattern_size, RightSize}
use Rattle.bundle.proofs.Cuts.{length_cut, slots_cut, lengths_cut, texts_cut, bytes_cut}
use Rattle.bundle.proofs.Words.{size_word, sum_drop, sum_take}

abbrev IsByte : ℕ → Type 0
IsByte b = b < 256

first_four : (bs : List ℕ) → 4 ≤ length bs → bs ≡ get_or bs 0 0 ∷ get_or bs 1 0 ∷ get_or bs 2 0 ∷ get_or bs 3 0 ∷ drop 4 bs
first_four [] h = absurd (omega arith)
first_four (a ∷ []) h = absurd (omega arith)
first_four (a ∷ b ∷ []) h = absurd (omega arith)
first_four (a ∷ b ∷ c ∷ []) h = absurd (omega arith)
first_four (a ∷ b ∷ c ∷ d ∷ bs) h = refl

-- the parts of bs, as its own two sizes have them
abbrev pub body : List ℕ → List ℕ
body bs = drop 4 bs

abbrev pub after_slots : List ℕ → List ℕ
after_slots bs = drop (count bs) (body bs)

abbrev pub after_lengths : List ℕ → List ℕ
after_lengths bs = drop (2 * count bs) (after_slots bs)

abbrev pub slots_in : List ℕ → List ℕ
slots_in bs = take (count bs) (body bs)

abbrev pub lengths_in : List ℕ → List ℕ
lengths_in bs = take (2 * count bs) (after_slots bs)

abbrev pub pattern_in : List ℕ → List ℕ
pattern_in bs = take (pattern_size bs) (after_lengths bs)

abbrev pub texts_in : List ℕ → List ℕ
texts_in bs = drop (pattern_size bs) (after_lengths bs)

body_whole : (bs : List ℕ) → slots_in bs ++ (lengths_in bs ++ (pattern_in bs ++ texts_in bs)) ≡ body bs
body_whole bs =
    let tail = take-append-drop (pattern_size bs) (after_lengths bs) in
    let rest = ap (λ l. lengths_in bs ++ l) tail ∙ take-append-drop (2 * count bs) (after_slots bs) in
    ap (λ l. slots_in bs ++ l) rest ∙ take-append-drop (count bs) (body bs)

sum_in : (bs : List ℕ) → sum16 (lengths_in bs) 0 (count bs) ≡ sum16 bs (4 + count bs) (count bs)
sum_in bs =
    let n = count bs in
    sum_take (2 * n) (after_slots bs) 0 n (omega arith)
    ∙ sum_drop n (body bs) 0 n
    ∙ sum_drop 4 bs (n + 0) n
    ∙ ap (λ k. sum16 bs (4 + k) n) (add-zero n)

-- whatever its size
module _ (bs : List ℕ) (bytes : Bytes bs) where
  byte_body : Bytes (body bs)
  byte_body = All-drop IsByte 4 bs bytes

  byte_rest : Bytes (after_slots bs)
  byte_rest = All-drop IsByte (count bs) (body bs) byte_body

  byte_tail : Bytes (after_lengths bs)
  byte_tail = All-drop IsByte (2 * count bs) (after_slots bs) byte_rest

  pub byte_parts : Bytes (pattern_in bs) × AllByRecursion OfBytes (cut (slots_in bs) (lengths_in bs) (texts_in bs))
  byte_parts = (
    All-take IsByte (pattern_size bs) (after_lengths bs) byte_tail,
    bytes_cut (slots_in bs) (lengths_in bs) (texts_in bs) (All-take IsByte (count bs) (body bs) byte_body) (All-drop IsByte (pattern_size bs) (after_lengths bs) byte_tail),
  )

module _ (bs : List ℕ) (bytes : Bytes bs) (right : RightSize bs) where
  long_body : length (body bs) + 4 ≡ length bs
  long_body = omega (arith, length-drop 4 bs, right.0)

  long_slots : length (slots_in bs) ≡ count bs
  long_slots = length-take-le (count bs) (body bs) (omega (arith, long_body, right.0))

  long_rest : length (after_slots bs) + (4 + count bs) ≡ length bs
  long_rest = omega (arith, long_body, length-drop (count bs) (body bs), right.0)

  long_lengths : length (lengths_in bs) ≡ 2 * count bs
  long_lengths = length-take-le (2 * count bs) (after_slots bs) (omega (arith, long_rest, right.0))

  long_tail : length (after_lengths bs) + (4 + 3 * count bs) ≡ length bs
  long_tail = omega (arith, long_rest, length-drop (2 * count bs) (after_slots bs), right.0)

  long_pattern : length (pattern_in bs) ≡ pattern_size bs
  long_pattern = length-take-le (pattern_size bs) (after_lengths bs) (omega (arith, long_tail, right.0))

  sum_texts : sum16 (lengths_in bs) 0 (length (slots_in bs)) ≡ length (texts_in bs)
  sum_texts =
      ap (sum16 (lengths_in bs) 0) long_slots ∙ sum_in bs ∙ omega (arith, long_tail, length-drop (pattern_size bs) (after_lengths bs), right.0)

  head_size : (i : ℕ) → i + 1 < length bs → size16 (word16 bs i) ≡ get_or bs i 0 ∷ get_or bs (i + 1) 0 ∷ []
  head_size i h = size_word _ _ (All-get_or IsByte bs i 0 (omega arith) bytes) (All-get_or IsByte bs (i + 1) 0 h bytes)

  pub put_together : bs ≡ written (pattern_in bs) (cut (slots_in bs) (lengths_in bs) (texts_in bs))
  put_together =
      let ss = slots_in bs in
      let ls = lengths_in bs in
      let ts = texts_in bs in
      let many = ap size16 (length_cut ss ls ts ∙ long_slots) ∙ head_size 0 (omega (arith, right.0)) in
      let long = ap size16 long_pattern ∙ head_size 2 (omega (arith, right.0)) in
      let byte_lengths = All-take IsByte (2 * count bs) (after_slots bs) (byte_rest bs bytes) in
      let a = slots_cut ss ls ts in
      let b = lengths_cut ss ls ts (omega (arith, long_lengths, long_slots)) (omega (arith, sum_texts)) byte_lengths in
      let c = texts_cut ss ls ts sum_texts in
      first_four bs (omega (arith, right.0))
      ∙ ap (λ l. get_or bs 0 0 ∷ get_or bs 1 0 ∷ get_or bs 2 0 ∷ get_or bs 3 0 ∷ l) (sym (body_whole bs))
      ∙ sym (λ i. many i ++ (long i ++ (a i ++ (b i ++ (pattern_in bs ++ c i)))))
