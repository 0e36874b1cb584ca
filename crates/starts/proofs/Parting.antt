-- Parts of a text that are stepped side by side, a lane to each. Assumes nothing.
use Rattle.std.proofs.Common.{◌≡◌, ℕ, zero, suc, ◌+◌, ◌-◌, ◌*◌, ◌<◌, ◌≤◌, List, [], ◌∷◌, ◌++◌, length, map, take, drop, get_or, set, length-set, get_or-set_same, get_or-set_other, sym, ap, ap₂, subst, ◌∙◌, ⊎_elim, append_assoc, arith}
use Rattle.std.specs.List.{range_with_len}
use Rattle.std.proofs.lemmas.Bool.{cases_eq}
use Rattle.std.proofs.lemmas.List.{length-drop, get_or-drop, take_more}
use Rattle.std.proofs.lemmas.List.Folds.{drop_split}
use Rattle.folding.specs.Texts.{together}
use Rattle.starts.specs.Automata.{led}
use Rattle.starts.specs.Parts.{piece, Lanes}
use Rattle.starts.proofs.Leading.{led_none, led_push}

-- one byte more of a part
piece_more : (text : List ℕ) (part j i : ℕ) → part * j + i < length text → piece text part j (i + 1) ≡ piece text part j i ++ (get_or text (part * j + i) 0 ∷ [])
piece_more text part j i lt =
    let from = part * j in
    ap (λ m. take m (drop from text)) (let one : from + (i + 1) - from ≡ i + 1 = omega arith in one)
    ∙ take_more (drop from text) i 0 (omega (arith, length-drop from text))
    ∙ ap₂ (λ m c. take m (drop from text) ++ (c ∷ [])) (let same : i ≡ from + i - from = omega arith in same) (get_or-drop from text i 0)

-- no byte of a part
piece_none : (text : List ℕ) (part j : ℕ) → piece text part j 0 ≡ []
piece_none text part j = ap (λ m. take m (drop (part * j) text)) (let none : part * j + 0 - part * j ≡ 0 = omega arith in none)

-- in a round of one byte the lanes before `upto` have been stepped, and the others not yet
pub record Round (moved : ℕ → ℕ → ℕ) (n : ℕ) (text : List ℕ) (part : ℕ) (from : List ℕ) (i upto : ℕ) (lanes : List ℕ) : Type 0 where
  pub long : length lanes ≡ 8
  pub low : (j : ℕ) → get_or lanes j 0 < n
  pub stepped : (j : ℕ) → j < upto → get_or lanes j 0 ≡ led moved (piece text part j (i + 1)) (get_or from j 0)
  pub waiting : (j : ℕ) → upto ≤ j → j < 8 → get_or lanes j 0 ≡ led moved (piece text part j i) (get_or from j 0)

module _ (moved : ℕ → ℕ → ℕ) (n : ℕ) (text : List ℕ) (part : ℕ) (from : List ℕ) where
  pub lanes_begin : length from ≡ 8 → ((j : ℕ) → get_or from j 0 < n) → Lanes moved n text part from 0 from
  lanes_begin long low = record {
    long = long;
    low = low;
    led_on = λ j _. sym (led_none moved (get_or from j 0)) ∙ ap (λ w. led moved w (get_or from j 0)) (sym (piece_none text part j));
  }

  pub round_begins : (i : ℕ) (lanes : List ℕ) → Lanes moved n text part from i lanes → Round moved n text part from i 0 lanes
  round_begins i lanes l = record { long = l.long; low = l.low; stepped = λ j none. absurd (omega arith); waiting = λ j _. l.led_on j }

  pub round_more : (i upto next : ℕ) (lanes : List ℕ) → Round moved n text part from i upto lanes → upto < 8 → part * upto + i < length text → next ≡ moved (get_or lanes upto 0) (get_or text (part * upto + i) 0) → next < n → Round moved n text part from i (upto + 1) (set lanes upto next)
  round_more i upto next lanes r lt within is low =
      let inside : upto < length lanes = let long = r.long in omega arith in
      record {
        long = length-set lanes upto next ∙ r.long;
        low = λ j.
            ⊎_elim
            (λ (here : j ≡ upto). subst (λ x. x < n) (sym (ap (λ k. get_or (set lanes upto next) k 0) here ∙ get_or-set_same lanes upto next 0 inside)) low)
            (λ other. subst (λ x. x < n) (sym (get_or-set_other lanes upto j next 0 other)) (r.low j))
            (cases_eq j upto);
        stepped = λ j before.
            ⊎_elim
            (λ (here : j ≡ upto).
            let there : get_or (set lanes upto next) upto 0 ≡ led moved (piece text part upto (i + 1)) (get_or from upto 0) =
            get_or-set_same lanes upto next 0 inside
            ∙ is
            ∙ ap (λ s. moved s (get_or text (part * upto + i) 0)) (r.waiting upto (omega arith) lt)
            ∙ sym (led_push moved (piece text part upto i) (get_or text (part * upto + i) 0) (get_or from upto 0))
            ∙ ap (λ w. led moved w (get_or from upto 0)) (sym (piece_more text part upto i within)) in
            subst (λ k. get_or (set lanes upto next) k 0 ≡ led moved (piece text part k (i + 1)) (get_or from k 0)) (sym here) there)
            (λ other. get_or-set_other lanes upto j next 0 other ∙ r.stepped j (omega arith))
            (cases_eq j upto);
        waiting = λ j after few. get_or-set_other lanes upto j next 0 (omega arith) ∙ r.waiting j (omega arith) few;
      }

  pub round_ends : (i upto : ℕ) (lanes : List ℕ) → Round moved n text part from i upto lanes → 8 ≤ upto → Lanes moved n text part from (i + 1) lanes
  round_ends i upto lanes r all = record { long = r.long; low = r.low; led_on = λ j few. r.stepped j (omega arith) }

-- the parts in a row, with what they leave over
pub pieces_together : (text : List ℕ) (part first m : ℕ) → together (map (λ j. piece text part j part) (range_with_len first m)) ++ drop (part * (first + m)) text ≡ drop (part * first) text
pieces_together text part first zero = ap (λ k. drop (part * k) text) (let none : first + 0 ≡ first = omega arith in none)
pieces_together text part first (suc m) =
    let rest = together (map (λ j. piece text part j part) (range_with_len (first + 1) m)) in
    append_assoc (piece text part first part) rest (drop (part * (first + suc m)) text)
    ∙ ap (λ k. piece text part first part ++ (rest ++ drop (part * k) text)) (let same : first + suc m ≡ first + 1 + m = omega arith in same)
    ∙ ap (λ v. piece text part first part ++ v) (pieces_together text part (first + 1) m)
    ∙ ap (λ k. piece text part first part ++ drop k text) (let on : part * (first + 1) ≡ part * first + part = omega arith in on)
    ∙ sym (drop_split text (part * first) (part * first + part) (omega arith))
