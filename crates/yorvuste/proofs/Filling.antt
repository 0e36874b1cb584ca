-- A text is filed from the first slot on, in strips that are as long as can be. Assumes nothing.
use Rattle.std.proofs.Common.{◌≡◌, ℕ, ◌+◌, ◌-◌, ◌*◌, ◌<◌, ◌≤◌, List, [], ◌∷◌, ◌++◌, length, min, replicate, None, Ok, Err, IfOk, Result, ◌↔◌, sym, refl, ap, ◌∙◌, subst, append_assoc, append-nil, arith, length-append}
use Rattle.std.proofs.lemmas.Bool.Decides.{Decides-like}
use Rattle.std.proofs.lemmas.List.{nil_from_length}
use Rattle.yorvuste.specs.Filled.{Filled}
use Rattle.yorvuste.specs.Judgements.{Told, room}
use Rattle.yorvuste.specs.declared.judging.Answers.{Answers}
use Rattle.fault.specs.declared.Fault.{Fault}
use Rattle.fault.specs.declared.Refusal.TheVariants.{NoSuchSlot}
use Rattle.folding.specs.Texts.{Bytes, together}
use Rattle.folding.specs.declared.tally.Tally.{Tally}
use Rattle.roll.specs.Refusals.{fault}
use Rattle.roll.specs.Stands.{State, Stands}
use Rattle.roll.specs.Steps.{FedAtOnce, Files}
use Rattle.roll.specs.declared.strip.Returned.{Returned}
use Rattle.roll.specs.declared.strip.Strip.{Strip}
use Rattle.roll.proofs.Filling.{filed_in, no_slot, held, together_more, whole_held, Front, front_none, front_size, front_more}

-- the first `slot` slots hold the head of the text, and `rest` is to come
pub record Along {L : Type 0} (leg : List ℕ → L) (s : State L) (text rest : List ℕ) (slot : ℕ) : Type 0 where
  pub strips : List (List ℕ)
  pub left : ℕ
  pub front : Front leg s strips slot left
  pub joined : together strips ++ rest ≡ text
  pub most : length (together strips) ≤ 1000000 * slot
  pub full : 0 < length rest → length (together strips) ≡ 1000000 * slot

module _ {L : Type 0} (leg : List ℕ → L) where
  pub along_none : (s : State L) (text : List ℕ) → Stands leg s (replicate 128 None) → Along leg s text text 0
  along_none s text stands = record { strips = []; left = 128; front = front_none leg s stands; joined = refl; most = omega arith; full = λ some. refl }

  pub along_all : (s : State L) (text rest : List ℕ) (slot : ℕ) → length rest ≡ 0 → Along leg s text rest slot → (length text ≤ room) × Filled leg s text
  along_all s text rest slot end along =
      let all : together along.strips ≡ text = sym (append-nil (together along.strips)) ∙ ap (λ l. together along.strips ++ l) (sym (nil_from_length rest end)) ∙ along.joined in
      let long = ap length all in
      let most = along.most in
      let slots = along.front.slots in
      (omega arith, record { plain = held along.strips along.left; stands = along.front.stands; slots = front_size leg s along.strips slot along.left along.front; holds = whole_held along.strips along.left ∙ all })

  module _ (M : List ℕ → Type 0) (was is : State L) (text rest : List ℕ) (slot : ℕ) (along : Along leg was text rest slot) where
    count : length (held along.strips along.left) ≡ 128
    count = front_size leg was along.strips slot along.left along.front

    pub along_more : (w later : List ℕ) {strip : Strip L} (t : Tally) → rest ≡ w ++ later → length w ≡ min (length rest) 1000000 → FedAtOnce leg w strip → Files leg M was slot strip (Ok t) is → Along leg is text later (slot + 1)
    along_more w later t parts long fed filed =
        let in' = filed_in leg M was is _ along.front.stands slot w t fed filed in
        let joined = together_more along.strips w in
        let sizes = ap length parts ∙ length-append w later in
        let longer = ap length joined ∙ length-append (together along.strips) w in
        let most = along.most in
        let full = along.full in
        record {
          strips = along.strips ++ w ∷ [];
          left = along.left - 1;
          front = front_more leg was is along.strips slot along.left w along.front (subst (λ k. slot < k) count in'.0) in'.1;
          joined = ap (λ l. l ++ later) joined ∙ append_assoc (together along.strips) w later ∙ ap (λ l. together along.strips ++ l) (sym parts) ∙ along.joined;
          most = omega arith;
          full = λ some. let before = full (omega arith) in omega arith;
        }

    pub along_stop : {strip : Strip L} (e : Returned L) → 0 < length rest → Files leg M was slot strip (Err e) is → (room < length text) × (e.fault ≡ fault NoSuchSlot 128)
    along_stop e some filed =
        let stop = no_slot leg M was is _ along.front.stands slot e filed in
        let over : 128 ≤ slot = subst (λ k. k ≤ slot) count stop.0 in
        let slots = along.front.slots in
        let is : slot ≡ 128 = omega arith in
        let full = along.full some in
        let long = ap length along.joined in
        let parts = length-append (together along.strips) rest in
        (omega arith, stop.1 ∙ ap (fault NoSuchSlot) is)

-- under two sets that are alike on texts of bytes
pub told_same : (M N : List ℕ → Type 0) → ((w : List ℕ) → Bytes w → M w ↔ N w) → (w : List ℕ) (r : Result Answers Fault) → IfOk r (λ a. Bytes w) → Told M w r → Told N w r
told_same M N same w (Ok a) bytes told = (told.0, Decides-like a.verdict (same w bytes).0 (same w bytes).1 told.1, told.2)
told_same M N same w (Err f) bytes told = told
