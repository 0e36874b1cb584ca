-- One turn of the fold over legs, what the slots' own cells are, and that joining is associative on the legs of texts. Assumes nothing.
use Rattle.std.proofs.Common.{◌≡◌, ℕ, ◌+◌, ◌-◌, ◌*◌, ◌<◌, List, [], ◌∷◌, ◌++◌, map, length, get_or, take, drop, sym, refl, ap, ◌∙◌, append_assoc, append-nil, arith, length-take, length-drop}
use lib.ListN.{length-map}
use Rattle.std.proofs.ByRecursion.{All-take}
use Rattle.std.proofs.lemmas.List.{ext_get_or, get_or_read, get_or-drop, get_or-take, get_or-map, take_more}
use Rattle.folding.specs.Cells.{under, cells}
use Rattle.folding.specs.Keeping.{half, slots as slots_of, Slotted}
use Rattle.folding.specs.Legs.{Joins, Associative}
use Rattle.folding.specs.Texts.{Bytes, AllBytes, together}
use Rattle.folding.proofs.Entries.{length_cells, get_or_cells, half_cells}
use Rattle.folding.proofs.Texts.{bytes_append, bytes_slot, bytes_together}
use Rattle.folding.proofs.Trees.{tree, together_append}

pub associative : {L : Type 0} (leg : List ℕ → L) → Associative leg
associative leg u v w bu bv bw uv vw left right joins-uv joins-left joins-vw joins-right =
    joins-left (u ++ v) w (bytes_append u v bu bv) bw (joins-uv u v bu bv refl refl) refl
    ∙ ap leg (append_assoc u v w)
    ∙ sym (joins-right u (v ++ w) bu (bytes_append v w bv bw) refl (joins-vw v w bv bw refl refl))

-- the cells of texts are those of their slots too
pub slotted : {L : Type 0} (leg : List ℕ → L) (all : List L) (slots : List (List ℕ)) → all ≡ cells leg slots → Slotted leg all slots
slotted leg all slots is =
    let size = ap length is ∙ length_cells leg slots in
    let n : half all ≡ length slots = half_cells leg slots all is in
    let wide : length (slots_of all) ≡ length slots = omega (arith, length-take (2 * half all - half all) (drop (half all) all), length-drop (half all) all) in
    ext_get_or (leg []) (slots_of all) (map leg slots) (wide ∙ sym (length-map slots leg))
    (λ s lt.
    get_or-take (2 * half all - half all) (drop (half all) all) s (leg []) (omega arith)
    ∙ get_or-drop (half all) all s (leg [])
    ∙ ap (λ l. get_or l (half all + s) (leg [])) is
    ∙ get_or_cells leg slots (half all + s) (leg []) (omega arith)
    ∙ ap (λ k. leg (under slots (k + s))) n
    ∙ ap leg ((tree slots).slot s (omega arith))
    ∙ sym (get_or-map leg slots s [] (leg []) (omega arith)))

together_more : (ts : List (List ℕ)) (i : ℕ) → i < length ts → together (take (i + 1) ts) ≡ together (take i ts) ++ get_or ts i []
together_more ts i lt =
    ap together (take_more ts i [] lt)
    ∙ together_append (take i ts) (get_or ts i [] ∷ [])
    ∙ ap (λ t. together (take i ts) ++ t) (append-nil (get_or ts i []))

pub bytes_upto : (ts : List (List ℕ)) (i : ℕ) → AllBytes ts → Bytes (together (take i ts))
bytes_upto ts i bytes = bytes_together (take i ts) (All-take Bytes i ts bytes)

-- one leg more is joined
pub fold_more : {L : Type 0} (leg : List ℕ → L) (legs : List L) (w : List ℕ) (ts : List (List ℕ)) (i : ℕ) (so_far x r : L) → Bytes w → AllBytes ts → legs ≡ map leg ts → i < length legs → so_far ≡ leg (w ++ together (take i ts)) → x ≡ get_or legs i x → Joins leg so_far x r → r ≡ leg (w ++ together (take (i + 1) ts))
fold_more leg legs w ts i so_far x r first bytes are lt was read joins =
    let long = ap length are ∙ length-map ts leg in
    let in' : i < length ts = omega arith in
    let front : List ℕ = together (take i ts) in
    joins (w ++ front) (get_or ts i []) (bytes_append w front first (bytes_upto ts i bytes)) (bytes_slot ts i bytes) was
    (get_or_read legs i x lt read (leg []) ∙ ap (λ l. get_or l i (leg [])) are ∙ get_or-map leg ts i [] (leg []) in')
    ∙ ap leg (append_assoc w front (get_or ts i []) ∙ ap (λ t. w ++ t) (sym (together_more ts i in')))
