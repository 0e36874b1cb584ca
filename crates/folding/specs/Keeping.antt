-- What the calls that keep the cells of texts in slots do, by the cells before and after. Assumes nothing.
--
--   half cells             how many slots there are
--   slots cells            the slots' own cells, in slot order
--   Clears leg was is      the cells are those of empty texts
--   Puts leg was s one is  cells of texts became those of the same texts with w in slot s, where `one` is the leg of w;
--                          `rest` is the last of an odd number of cells, which is no slot's and above none
--   Spares was s is        whatever the values, no cell but slot s and those above it has changed
--   Ready leg slots i all  the cells are those of the texts, save perhaps cell i and those above it
--   Gathers leg all r      r is the leg of the texts joined in slot order
--   Slotted leg all texts  the slots' own cells are the legs of the texts, whatever the other cells are
use Rattle.std.specs.Prelude.{◌≡◌, ℕ, ◌+◌, ◌*◌, ◌/◌, ◌<◌, ◌≤◌, List, [], ◌++◌, map, length, replicate, slice_index_or, slice_range, slice_set}
use Rattle.folding.specs.Cells.{under, cells, Above}
use Rattle.folding.specs.Texts.{Bytes, AllBytes, together}

abbrev pub half : {L : Type 0} → List L → ℕ
half all = length all / 2

abbrev pub slots : {L : Type 0} → List L → List L
slots all = slice_range all (half all) (2 * half all)

abbrev pub Clears : {L : Type 0} → (List ℕ → L) → List L → List L → Type 0
Clears leg was is =
    (is ≡ replicate (length was) (leg []))
    × ((n : ℕ) → length was ≡ 2 * n → is ≡ cells leg (replicate n []))

abbrev pub Puts : {L : Type 0} → (List ℕ → L) → List L → ℕ → L → List L → Type 0
Puts {L} leg was s one is =
    (slots : List (List ℕ)) (rest : List L) (w : List ℕ) → AllBytes slots → length rest ≤ 1 → Bytes w → s < length slots
    → was ≡ cells leg slots ++ rest → one ≡ leg w → is ≡ cells leg (slice_set slots s w) ++ rest

abbrev pub Spares : {L : Type 0} → List L → ℕ → List L → Type 0
Spares {L} was s is = (k : ℕ) (d : L) → (Above k (half was + s) → ⊥) → slice_index_or is k d ≡ slice_index_or was k d

abbrev pub Ready : {L : Type 0} → (List ℕ → L) → List (List ℕ) → ℕ → List L → Type 0
Ready leg slots i all = (k : ℕ) → k < 2 * length slots → (Above k i → ⊥) → slice_index_or all k (leg []) ≡ leg (under slots k)

abbrev pub Gathers : {L : Type 0} → (List ℕ → L) → List L → L → Type 0
Gathers leg all r = (slots : List (List ℕ)) → AllBytes slots → all ≡ cells leg slots → r ≡ leg (together slots)

abbrev pub Slotted : {L : Type 0} → (List ℕ → L) → List L → List (List ℕ) → Type 0
Slotted leg all texts = slots all ≡ map leg texts
