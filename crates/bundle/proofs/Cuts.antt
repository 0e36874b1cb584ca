-- Cutting runs of slots, lengths and texts into strips, and joining strips again. Assumes nothing.
use Rattle.std.proofs.Common.{◌≡◌, ℕ, suc, ◌+◌, ◌*◌, ◌<◌, ◌≤◌, List, [], ◌∷◌, ◌++◌, length, take, drop, sym, refl, ap, ◌∙◌, arith}
use Rattle.std.specs.List.{AllByRecursion}
use Rattle.std.proofs.ByRecursion.{All-take, All-drop}
use Rattle.std.proofs.lemmas.List.{length-append, length-drop, length-take-le, take-append-drop, take_at, drop_at, nil_from_length}
use Rattle.folding.specs.Texts.{Bytes}
use Rattle.bundle.specs.Cuts.{cut}
use Rattle.bundle.specs.Layout.{Piece, OfBytes, size16, slots, lengths, texts}
use Rattle.bundle.specs.Sizes.{word16, sum16}
use Rattle.bundle.proofs.Words.{size_word, word_size, sum_step}

pub length_cut : (ss ls ts : List ℕ) → length (cut ss ls ts) ≡ length ss
length_cut [] ls ts = refl
length_cut (s ∷ ss) ls ts = ap suc (length_cut ss (drop 2 ls) (drop (word16 ls 0) ts))

pub slots_cut : (ss ls ts : List ℕ) → slots (cut ss ls ts) ≡ ss
slots_cut [] ls ts = refl
slots_cut (s ∷ ss) ls ts = ap (λ l. s ∷ l) (slots_cut ss (drop 2 ls) (drop (word16 ls 0) ts))

pub lengths_cut : (ss ls ts : List ℕ) → length ls ≡ 2 * length ss → sum16 ls 0 (length ss) ≤ length ts → Bytes ls → lengths (cut ss ls ts) ≡ ls
lengths_cut [] ls ts e fits h = sym (nil_from_length ls e)
lengths_cut (s ∷ ss) [] ts e fits h = absurd (omega arith)
lengths_cut (s ∷ ss) (a ∷ []) ts e fits h = absurd (omega arith)
lengths_cut (s ∷ ss) (a ∷ b ∷ ls) ts e fits h =
    let sums = sum_step (a ∷ b ∷ ls) (length ss) in
    let w : ℕ = 256 * a + b in
    let first = ap size16 (length-take-le w ts (omega arith)) ∙ size_word a b h.0 h.1.0 in
    let others = lengths_cut ss ls (drop w ts) (omega arith) (omega (arith, length-drop w ts)) h.1.1 in
    (λ i. first i ++ others i)

pub texts_cut : (ss ls ts : List ℕ) → sum16 ls 0 (length ss) ≡ length ts → texts (cut ss ls ts) ≡ ts
texts_cut [] ls ts e = sym (nil_from_length ts (sym e))
texts_cut (s ∷ ss) ls ts e =
    let w = word16 ls 0 in
    let rest = texts_cut ss (drop 2 ls) (drop w ts) (omega (arith, sum_step ls (length ss), length-drop w ts)) in
    ap (λ l. take w ts ++ l) rest ∙ take-append-drop w ts

pub bytes_cut : (ss ls ts : List ℕ) → Bytes ss → Bytes ts → AllByRecursion OfBytes (cut ss ls ts)
bytes_cut [] ls ts a b = tt
bytes_cut (s ∷ ss) ls ts a b =
    let w = word16 ls 0 in
    ((a.0, All-take (λ c. c < 256) w ts b), bytes_cut ss (drop 2 ls) (drop w ts) a.1 (All-drop (λ c. c < 256) w ts b))

pub length_lengths : (ps : List Piece) → length (lengths ps) ≡ 2 * length ps
length_lengths [] = refl
length_lengths (p ∷ ps) = omega (arith, length_lengths ps)

pub sum_lengths : (ps : List Piece) (rest : List ℕ) → sum16 (lengths ps ++ rest) 0 (length ps) ≡ length (texts ps)
sum_lengths [] rest = refl
sum_lengths (p ∷ ps) rest =
    omega (arith, sum_step (lengths (p ∷ ps) ++ rest) (length ps), word_size (length p.text), sum_lengths ps rest, length-append p.text (texts ps))

-- cutting undoes joining
pub cut_joined : (ps : List Piece) → cut (slots ps) (lengths ps) (texts ps) ≡ ps
cut_joined [] = refl
cut_joined (p ∷ ps) =
    let size = sym (word_size (length p.text)) in
    let first = take_at p.text (texts ps) _ size in
    let others = drop_at p.text (texts ps) _ size in
    (λ i. record { slot = p.slot; text = first i } ∷ cut (slots ps) (lengths ps) (others i)) ∙ ap (λ l. p ∷ l) (cut_joined ps)
