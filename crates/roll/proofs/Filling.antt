-- A strip that is fed at once and filed, and a roll that is filled from its first slot on. Assumes nothing.
use Rattle.std.proofs.Common.{◌≡◌, ℕ, zero, suc, ◌+◌, ◌-◌, ◌<◌, ◌≤◌, Bool, true, false, ltb, List, [], ◌∷◌, ◌++◌, map, length, set, replicate, Some, None, Ok, Err, Option, sym, refl, ap, ◌∙◌, subst, append_assoc, append-nil, length-append, arith}
use lib.ListN.{length-map}
use Rattle.std.proofs.Math.Seq.{set-append_seam}
use Rattle.std.proofs.lemmas.Bool.{ltb-false}
use Rattle.std.proofs.lemmas.Grind.{flat_map-append}
use Rattle.std.proofs.lemmas.List.{length-replicate, map-append}
use Rattle.fault.specs.declared.Fault.{Fault}
use Rattle.fault.specs.declared.Refusal.TheVariants.{NoSuchSlot}
use Rattle.folding.specs.Texts.{together}
use Rattle.folding.specs.declared.tally.Tally.{Tally}
use Rattle.roll.specs.Plain.{Plain, whole}
use Rattle.roll.specs.Refusals.{fault, unless, first}
use Rattle.roll.specs.Stands.{State, slots, Stands}
use Rattle.roll.specs.Steps.{FedAtOnce, Files}
use Rattle.roll.specs.declared.strip.Returned.{Returned}
use Rattle.roll.specs.declared.strip.Strip.{Strip}
use Rattle.roll.proofs.Granting.{refused_not_none, room_none}
use Rattle.roll.proofs.Standing.{stands_size, stands_tables}

stops : (b : Bool) (f g : Fault) → unless b f ≡ Some g → (b ≡ false) × (g ≡ f)
stops true f g e = absurd (refused_not_none None g e refl)
stops false f g e = (refl, cc)

module _ {L : Type 0} (leg : List ℕ → L) (M : List ℕ → Type 0) (was is : State L) (p : Plain) (stands : Stands leg was p) (slot : ℕ) {strip : Strip L} where
  pub filed_in : (w : List ℕ) (t : Tally) → FedAtOnce leg w strip → Files leg M was slot strip (Ok t) is → (slot < length p) × Stands leg is (set p slot (Some w))
  filed_in w t fed filed =
      let granted = filed.always.roll.which in (
        subst (λ k. slot < k) (stands_size stands) (room_none (length (slots was.roll)) slot (length was.legs) (length was.tallies) granted),
        (filed.keeps w (fed.2.holds [] fed.1) p stands granted).1,
      )

  pub no_slot : (e : Returned L) → Files leg M was slot strip (Err e) is → (length p ≤ slot) × (e.fault ≡ fault NoSuchSlot slot)
  no_slot e filed =
      let all = length (slots was.roll) in
      let stopped = ap (λ o. first o (unless (ltb slot all) (fault NoSuchSlot slot))) (sym (stands_tables stands)) ∙ filed.always.roll.which in
      let why = stops (ltb slot all) (fault NoSuchSlot slot) e.fault stopped in
      (subst (λ k. k ≤ slot) (stands_size stands) (ltb-false slot all why.0), why.1)

-- the strips ts, and n empty slots after them
abbrev pub held : List (List ℕ) → ℕ → Plain
held ts n = map Some ts ++ replicate n None

pub held_more : (ts : List (List ℕ)) (n : ℕ) (w : List ℕ) → set (held ts (suc n)) (length ts) (Some w) ≡ held (ts ++ w ∷ []) n
held_more ts n w =
    ap (λ k. set (held ts (suc n)) k (Some w)) (sym (length-map ts Some))
    ∙ set-append_seam (map Some ts) None (replicate n None) (Some w)
    ∙ sym (append_assoc (map Some ts) (Some w ∷ []) (replicate n None))
    ∙ ap (λ l. l ++ replicate n None) (sym (map-append Some ts (w ∷ [])))

pub together_more : (ts : List (List ℕ)) (w : List ℕ) → together (ts ++ w ∷ []) ≡ together ts ++ w
together_more ts w = flat_map-append (λ x. x) ts (w ∷ []) ∙ ap (λ l. together ts ++ l) (append-nil w)

pub whole_held : (ts : List (List ℕ)) (n : ℕ) → whole (held ts n) ≡ together ts
whole_held [] zero = refl
whole_held [] (suc n) = whole_held [] n
whole_held (w ∷ ts) n = ap (λ l. w ++ l) (whole_held ts n)

pub length_held : (ts : List (List ℕ)) (n : ℕ) → length (held ts n) ≡ length ts + n
length_held ts n = length-append (map Some ts) (replicate {A = Option (List ℕ)} n None) ∙ ap (λ k. k + length (replicate {A = Option (List ℕ)} n None)) (length-map ts Some) ∙ ap (λ k. length ts + k) (length-replicate {A = Option (List ℕ)} n None)

-- the strips ts fill the first n of 128 slots, and so many are left
pub record Front {L : Type 0} (leg : List ℕ → L) (s : State L) (ts : List (List ℕ)) (n left : ℕ) : Type 0 where
  pub are : length ts ≡ n
  pub slots : n + left ≡ 128
  pub stands : Stands leg s (held ts left)

module _ {L : Type 0} (leg : List ℕ → L) where
  pub front_none : (s : State L) → Stands leg s (replicate 128 None) → Front leg s [] 0 128
  front_none s stands = record { are = refl; slots = refl; stands = stands }

  pub front_size : (s : State L) (ts : List (List ℕ)) (n left : ℕ) → Front leg s ts n left → length (held ts left) ≡ 128
  front_size s ts n left front = length_held ts left ∙ ap (λ k. k + left) front.are ∙ front.slots

  pub front_more : (was is : State L) (ts : List (List ℕ)) (n left : ℕ) (w : List ℕ) → Front leg was ts n left → n < 128 → Stands leg is (set (held ts left) n (Some w)) → Front leg is (ts ++ w ∷ []) (n + 1) (left - 1)
  front_more was is ts n left w front in' stands =
      let k = left - 1 in
      let are = front.are in
      let slots = front.slots in
      let more : left ≡ suc k = omega arith in
      let filled = ap (λ m. set (held ts m) n (Some w)) more ∙ ap (λ m. set (held ts (suc k)) m (Some w)) (sym are) ∙ held_more ts k w in
      record {
        are = length-append ts (w ∷ []) ∙ ap (λ m. m + 1) are;
        slots = omega arith;
        stands = subst (Stands leg is) filled stands;
      }
