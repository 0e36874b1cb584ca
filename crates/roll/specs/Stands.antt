-- What a roll with its cells stands for, and what an open strip holds. Assumes nothing.
--
--   State        a roll, with the legs and tallies that are lent to a call
--   slots r      the marks of the roll's slots, as many as it has
--   Stands       a roll and its cells stand for a plain roll, under the machine with this leg function
--   Counted      the tally and the byte count of an open strip are those of a text, whichever machine fed it
--   Holds        an open strip holds a text: its leg is that text's too
use Rattle.std.specs.Prelude.{◌≡◌, ℕ, List, length}
use Rattle.folding.specs.Cells.{cells}
use Rattle.folding.specs.Tallies.{tally}
use Rattle.folding.specs.Texts.{Bytes, AllBytes}
use Rattle.folding.specs.declared.tally.Tally.{Tally}
use Rattle.roll.specs.Plain.{Plain, texts, marks}
use Rattle.roll.specs.declared.roll.Roll.{Roll}
use Rattle.roll.specs.declared.slot.Slot.{Slot}
use Rattle.roll.specs.declared.strip.Strip.{Strip}

pub record State (L : Type 0) : Type 0 where
  pub roll : Roll
  pub legs : List L
  pub tallies : List Tally

abbrev pub state : {L : Type 0} → Roll → List L → List Tally → State L
state r l t = record { roll = r; legs = l; tallies = t }

abbrev pub slots : Roll → List Slot
slots r = r.slots.items

pub record Stands {L : Type 0} (leg : List ℕ → L) (s : State L) (p : Plain) : Type 0 where
  pub held : slots s.roll ≡ marks p
  pub bytes : AllBytes (texts p)
  pub legs : s.legs ≡ cells leg (texts p)
  pub tallies : s.tallies ≡ cells tally (texts p)

pub record Counted {L : Type 0} (s : Strip L) (w : List ℕ) : Type 0 where
  pub bytes : Bytes w
  pub tallies : s.tally ≡ tally w
  pub count : s.fed ≡ length w

pub record Holds {L : Type 0} (leg : List ℕ → L) (s : Strip L) (w : List ℕ) : Type 0 where
  pub counted : Counted s w
  pub legs : s.leg ≡ leg w
