-- What a granted call says of the lent tables and the slot. Assumes nothing.
use Rattle.std.proofs.Common.{◌≡◌, ℕ, ◌*◌, ◌/◌, ◌<◌, Bool, true, false, eqb, ltb, List, length, get_or, Some, None, Option, sym, refl, ap, ◌∙◌, arith}
use Rattle.std.proofs.lemmas.List.{get_or_default}
use Rattle.std.proofs.lemmas.Bool.{eqb-true, ltb-true}
use Rattle.fault.specs.declared.Fault.{Fault}
use Rattle.fault.specs.declared.Refusal.TheVariants.{TableLength, SlotCount, NoSuchSlot, SlotEmpty}
use Rattle.roll.specs.Calls.{Answer, refused}
use Rattle.roll.specs.Refusals.{withdrawal, fault, unless, first, is_held, tables, room, refusal}
use Rattle.roll.specs.Sizes.{allowed}
use Rattle.roll.specs.Stands.{slots}
use Rattle.roll.specs.Steps.{fault_of}
use Rattle.roll.specs.declared.roll.Roll.{Roll}
use Rattle.roll.specs.declared.slot.Slot.{Slot}
use Rattle.roll.specs.declared.slot.Slot.TheVariants.{Held, Empty}

none≢some : {X : Type 0} (f : X) → None ≡ Some f → ⊥
none≢some f e = let z : ◌≡◌ {A = ℕ} 0 1 = cc in omega arith

pub unless_none : (b : Bool) (f : Fault) → unless b f ≡ None → b ≡ true
unless_none true f e = refl
unless_none false f e = absurd (none≢some f (sym e))

pub first_none : (f g : Option Fault) → first f g ≡ None → (f ≡ None) × (g ≡ None)
first_none None g e = (refl, e)
first_none (Some f) g e = absurd (none≢some f (sym e))

pub tables_none : (n l t : ℕ) → tables n l t ≡ None → (l ≡ 2 * n) × (t ≡ 2 * n)
tables_none n l t e =
    let both = first_none (unless (eqb l (2 * n)) (fault TableLength 0)) (unless (eqb t (2 * n)) (fault TableLength 1)) e in
    (eqb-true l (2 * n) (unless_none (eqb l (2 * n)) _ both.0), eqb-true t (2 * n) (unless_none (eqb t (2 * n)) _ both.1))

pub room_none : (n s l t : ℕ) → room n s l t ≡ None → s < n
room_none n s l t e = ltb-true s n (unless_none (ltb s n) (fault NoSuchSlot s) (first_none (tables n l t) (unless (ltb s n) (fault NoSuchSlot s)) e).1)

-- the slot is one of either table
pub room_half : (n s l t : ℕ) → room n s l t ≡ None → (s < l / 2) × (s < t / 2)
room_half n s l t e =
    let fits = tables_none n l t (first_none (tables n l t) (unless (ltb s n) (fault NoSuchSlot s)) e).0 in
    let legs = fits.0 in
    let tallies = fits.1 in
    let in' = room_none n s l t e in
    (omega arith, omega arith)

pub not_refused : (a : Answer) (f : Fault) → fault_of a ≡ None → a ≡ refused f → ⊥
not_refused a f granted e = none≢some f (sym granted ∙ ap fault_of e)

-- the tables and slots of a roll, by the count of its slots that was taken
pub tables_at : (n m l t : ℕ) → n ≡ m → None ≡ tables n l t → tables m l t ≡ None
tables_at n m l t same granted = ap (λ k. tables k l t) (sym same) ∙ sym granted

pub opening_none : (n l t : ℕ) → allowed n ≡ true → None ≡ tables n l t → first (unless (allowed n) (fault SlotCount n)) (tables n l t) ≡ None
opening_none n l t size granted = ap (λ b. first (unless b (fault SlotCount n)) (tables n l t)) size ∙ sym granted

-- whether the slot to withdraw is held, by the mark that is read
pub withdrawal_at : (r : Roll) (s l t : ℕ) (b : Bool) (marks : List Slot) → None ≡ room (length (slots r)) s l t → marks ≡ slots r → b ≡ is_held (get_or marks s Held) → refusal (slots r) (withdrawal s) l t ≡ unless b (fault SlotEmpty s)
withdrawal_at r s l t b marks granted same held =
    let in' : s < length (slots r) = room_none (length (slots r)) s l t (sym granted) in
    let mark : get_or (slots r) s Empty ≡ get_or marks s Held = get_or_default (slots r) s Empty Held in' ∙ ap (λ l. get_or l s Held) (sym same) in
    ap (λ f. first f (unless (is_held (get_or (slots r) s Empty)) (fault SlotEmpty s))) (sym granted)
    ∙ ap (λ x. unless (is_held x) (fault SlotEmpty s)) mark
    ∙ ap (λ x. unless x (fault SlotEmpty s)) (sym held)

pub refused_not_none : {X : Type 0} (o : Option X) (f : X) → o ≡ Some f → o ≡ None → ⊥
refused_not_none o f e n = none≢some f (sym n ∙ e)
