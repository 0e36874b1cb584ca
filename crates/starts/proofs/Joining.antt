-- The maps of many legs composed in order, and the legs of the parts of a text. Assumes nothing.
use Rattle.std.proofs.Common.{◌≡◌, ℕ, ◌+◌, ◌*◌, ◌%◌, ◌<◌, ◌≤◌, List, [], ◌∷◌, ◌++◌, length, map, take, drop, get_or, sym, ap, ap₂, ◌∙◌, append_assoc, arith}
use Rattle.std.proofs.ByRecursion.{All-take, All-drop}
use Rattle.std.specs.List.{range_with_len}
use Rattle.std.proofs.lemmas.Grind.{flat_map-append}
use Rattle.std.proofs.lemmas.List.{append-nil, length-map, get_or-map, take_more, take_all}
use Rattle.std.proofs.lemmas.List.FromFn.{fill_by_all}
use Rattle.folding.specs.Texts.{Bytes, AllBytes, together}
use Rattle.folding.proofs.Texts.{bytes_append, bytes_take, bytes_slot, bytes_together}
use Rattle.starts.specs.Automata.{led}
use Rattle.starts.specs.Maps.{composed, made}
use Rattle.starts.specs.Parts.{piece, Lanes}
use Rattle.starts.specs.Runs.{move_of, leg}
use Rattle.starts.specs.Starts.{row, Follows}
use Rattle.starts.specs.declared.statemap.StateMap.{StateMap}
use Rattle.starts.proofs.Following.{leg_low, leg_makes}
use Rattle.starts.proofs.Leading.{led_append}
use Rattle.starts.proofs.Parting.{pieces_together}
use Rattle.starts.proofs.Sending.{made_joined}

-- one text more
together_more : (texts : List (List ℕ)) (i : ℕ) → i < length texts → together (take (i + 1) texts) ≡ together (take i texts) ++ get_or texts i []
together_more texts i lt =
    ap together (take_more texts i [] lt)
    ∙ flat_map-append (λ w. w) (take i texts) (get_or texts i [] ∷ [])
    ∙ ap (λ w. together (take i texts) ++ w) (append-nil (get_or texts i []))

module _ (k : ℕ) (moved : ℕ → ℕ → ℕ) (n : ℕ) (maps moves : List ℕ) (few : (1 ≤ k) × (k ≤ 64)) (closed : (s c : ℕ) → s < k → c < 256 → moved s c < k) (follows : Follows k moved n maps moves) where
  -- one map more is composed
  pub composed_more : (texts : List (List ℕ)) → AllBytes texts → (starts : List ℕ) → starts ≡ map (leg moves) texts → (i : ℕ) → i < length starts → (states start : ℕ) (both one next : StateMap) → states ≡ k → both ≡ made k moved (together (take i texts)) → start ≡ get_or starts i 0 % 512 → (start < n → one ≡ row maps start) → next ≡ composed states both one → next ≡ made k moved (together (take (i + 1) texts))
  composed_more texts bytes starts are i lt states start both one next count so_far is maps_to composes =
      let inside : i < length texts = omega (arith, ap length are, length-map texts (leg moves)) in
      let w = get_or texts i [] in
      let w_bytes : Bytes w = bytes_slot texts i bytes in
      let at : get_or starts i 0 ≡ leg moves w = ap (λ l. get_or l i 0) are ∙ get_or-map (leg moves) texts i [] 0 inside in
      let low : get_or starts i 0 < n = leg_low k moved n maps moves follows w w_bytes (get_or starts i 0) at in
      let most = follows.1 in
      let same : start ≡ get_or starts i 0 = omega arith in
      let map_of_w : one ≡ made k moved w = maps_to (omega arith) ∙ ap (row maps) (same ∙ at) ∙ (leg_makes k moved n maps moves few closed follows w w_bytes).1 in
      composes
      ∙ ap (λ j. composed j both one) count
      ∙ ap₂ (composed k) so_far map_of_w
      ∙ made_joined k moved few.1 closed (together (take i texts)) w (bytes_together (take i texts) (All-take Bytes i texts bytes)) w_bytes
      ∙ ap (made k moved) (sym (together_more texts i inside))

  -- all are composed: the map is that of the leg of all texts joined
  pub composed_all : (texts : List (List ℕ)) → AllBytes texts → (starts : List ℕ) → starts ≡ map (leg moves) texts → (i : ℕ) → length starts ≤ i → (both : StateMap) → both ≡ made k moved (together (take i texts)) → (leg moves (together texts) < n) × (both ≡ row maps (leg moves (together texts)))
  composed_all texts bytes starts are i all both so_far =
      let (low, makes) = leg_makes k moved n maps moves few closed follows (together texts) (bytes_together texts bytes) in
      let past : length texts ≤ i = omega (arith, ap length are, length-map texts (leg moves)) in
      (low, so_far ∙ ap (λ ws. made k moved (together ws)) (take_all i texts past) ∙ sym makes)

bytes_piece : (text : List ℕ) (part j : ℕ) → Bytes text → Bytes (piece text part j part)
bytes_piece text part j bytes = bytes_take _ (drop (part * j) text) (All-drop (λ b. b < 256) (part * j) text bytes)

-- the texts whose legs the lanes are, where the first part goes on from a text
abbrev pub texts_of : List ℕ → List ℕ → ℕ → List (List ℕ)
texts_of w text part = (w ++ piece text part 0 part) ∷ map (λ j. piece text part j part) (range_with_len 1 7)

pub lanes_are : (moves : List ℕ) (n : ℕ) (text : List ℕ) (part at : ℕ) (lanes w : List ℕ) → Lanes (move_of moves) n text part (at ∷ 0 ∷ 0 ∷ 0 ∷ 0 ∷ 0 ∷ 0 ∷ 0 ∷ []) part lanes → at ≡ leg moves w → lanes ≡ map (leg moves) (texts_of w text part)
lanes_are moves n text part at lanes w l is =
    fill_by_all (λ j. led (move_of moves) (piece text part j part) (get_or (at ∷ 0 ∷ 0 ∷ 0 ∷ 0 ∷ 0 ∷ 0 ∷ 0 ∷ []) j 0)) lanes 8 0 l.long l.led_on
    ∙ ap (λ r. r ∷ map (λ j. leg moves (piece text part j part)) (range_with_len 1 7)) (ap (led (move_of moves) (piece text part 0 part)) is ∙ sym (led_append (move_of moves) w (piece text part 0 part) 0))

pieces_bytes : (text : List ℕ) (part : ℕ) (js : List ℕ) → Bytes text → AllBytes (map (λ j. piece text part j part) js)
pieces_bytes text part [] bytes = tt
pieces_bytes text part (j ∷ js) bytes = (bytes_piece text part j bytes, pieces_bytes text part js bytes)

pub texts_bytes : (w text : List ℕ) (part : ℕ) → Bytes w → Bytes text → AllBytes (texts_of w text part)
texts_bytes w text part w_bytes bytes = (bytes_append w (piece text part 0 part) w_bytes (bytes_piece text part 0 bytes), pieces_bytes text part (range_with_len 1 7) bytes)

pub texts_together : (w text : List ℕ) (part : ℕ) → together (texts_of w text part) ++ drop (8 * part) text ≡ w ++ text
texts_together w text part =
    let first = piece text part 0 part in
    let others = together (map (λ j. piece text part j part) (range_with_len 1 7)) in
    let rest = drop (8 * part) text in
    ap (λ v. v ++ rest) (append_assoc w first others)
    ∙ append_assoc w (first ++ others) rest
    ∙ ap (λ k. w ++ ((first ++ others) ++ drop k text)) (let same : 8 * part ≡ part * 8 = omega arith in same)
    ∙ ap (λ v. w ++ v) (pieces_together text part 0 8)
    ∙ ap (λ k. w ++ drop k text) (let none : part * 0 ≡ 0 = omega arith in none)
