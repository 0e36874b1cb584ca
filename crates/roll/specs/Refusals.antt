-- The calls of a roll as data, and when one is refused and with which fault, by which slots are held and by the lengths of the lent tables. Assumes nothing.
--
--   Call          a call by its arguments: a filed strip is its text
--   first f g     f, or else g: the order in which the refusals are tried
--   tables n l t  refusal 4: not 2n legs, at place 0, or not 2n tallies, at place 1
--   room n s l t  the same, and then refusal 9: no slot s among n
--   refusal       the fault of a call that is lent l legs and t tallies, or none where the call is granted
--   marked        which slots are held after a granted call
use Rattle.std.specs.Prelude.{ℕ, ◌*◌, Bool, true, false, List, length, replicate, Some, None, Option, ◌==◌, nat_lt, slice_index_or, slice_set}
use Rattle.fault.specs.declared.Fault.{Fault}
use Rattle.fault.specs.declared.Layer.TheVariants.{Roll}
use Rattle.fault.specs.declared.Refusal.{Refusal}
use Rattle.fault.specs.declared.Refusal.TheVariants.{TableLength, SlotCount, NoSuchSlot, SlotEmpty}
use Rattle.roll.specs.Sizes.{allowed}
use Rattle.roll.specs.declared.slot.Slot.{Slot}
use Rattle.roll.specs.declared.slot.Slot.TheVariants.{Held, Empty}

pub data Call : Type 0 where
  opening : ℕ → Call
  filing : ℕ → List ℕ → Call
  withdrawal : ℕ → Call
  verdict : Call
  totals : Call
  culprit : Call

abbrev pub fault : Refusal → ℕ → Fault
fault r at = record { refusal = r; layer = Roll; place = at }

abbrev pub unless : Bool → Fault → Option Fault
unless true f = None
unless false f = Some f

abbrev pub first : Option Fault → Option Fault → Option Fault
first None g = g
first (Some f) g = Some f

abbrev pub is_held : Slot → Bool
is_held Held = true
is_held Empty = false

abbrev pub tables : ℕ → ℕ → ℕ → Option Fault
tables n l t = first (unless (l == 2 * n) (fault TableLength 0)) (unless (t == 2 * n) (fault TableLength 1))

abbrev pub room : ℕ → ℕ → ℕ → ℕ → Option Fault
room n s l t = first (tables n l t) (unless (nat_lt s n) (fault NoSuchSlot s))

abbrev pub refusal : List Slot → Call → ℕ → ℕ → Option Fault
refusal slots (opening n) l t = first (unless (allowed n) (fault SlotCount n)) (tables n l t)
refusal slots (filing s w) l t = room (length slots) s l t
refusal slots (withdrawal s) l t = first (room (length slots) s l t) (unless (is_held (slice_index_or slots s Empty)) (fault SlotEmpty s))
refusal slots verdict l t = tables (length slots) l t
refusal slots totals l t = tables (length slots) l t
refusal slots culprit l t = tables (length slots) l t

abbrev pub marked : List Slot → Call → List Slot
marked slots (opening n) = replicate n Empty
marked slots (filing s w) = slice_set slots s Held
marked slots (withdrawal s) = slice_set slots s Empty
marked slots verdict = slots
marked slots totals = slots
marked slots culprit = slots
