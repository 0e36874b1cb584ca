-- A roll with what is lent with a call of it, what the calls do with that, and that it is still lent after them. Assumes nothing.
--
--   with r l           the roll and the cells that a call may write
--   before r l         the roll and the cells that a question reads
--   StillLent was is   the same machine, and the same two tables, of unchanged length
--   OpensWith, FilesWith, WithdrawsWith, AsksWith
--                      what a call does (Steps.antt) to a roll and to the cells that it is lent, under the machine that it is lent; of each
--                      machine of the kind X, `leg` is the leg function and M the set
use Rattle.std.specs.Prelude.{◌≡◌, ℕ, List, length, Result}
use Rattle.fault.specs.declared.Fault.{Fault}
use Rattle.folding.specs.declared.tally.Tally.{Tally}
use Rattle.roll.specs.Calls.{Answer}
use Rattle.roll.specs.Refusals.{Call}
use Rattle.roll.specs.Stands.{State, state}
use Rattle.roll.specs.Steps.{Opens, Files, Withdraws, Asks}
use Rattle.roll.specs.declared.lent.Lent.{Lent}
use Rattle.roll.specs.declared.lent.LentMut.{LentMut}
use Rattle.roll.specs.declared.roll.Roll.{Roll}
use Rattle.roll.specs.declared.strip.Returned.{Returned}
use Rattle.roll.specs.declared.strip.Strip.{Strip}

abbrev pub with : {M L : Type 0} → Roll → LentMut M L → State L
with r l = state r l.legs.now l.tallies.now

abbrev pub before : {M L : Type 0} → Roll → Lent M L → State L
before r l = state r l.legs.now l.tallies.now

pub record StillLent {M L : Type 0} (was is : LentMut M L) : Type 0 where
  pub machine : is.machine ≡ was.machine
  pub legs : is.legs.ghost_name ≡ was.legs.ghost_name
  pub tallies : is.tallies.ghost_name ≡ was.tallies.ghost_name
  pub leg_count : length is.legs.now ≡ length was.legs.now
  pub tally_count : length is.tallies.now ≡ length was.tallies.now

abbrev pub OpensWith : {X L : Type 0} → (X → List ℕ → L) → Roll → LentMut X L → ℕ → Result (Unit {0}) Fault → Roll → LentMut X L → Type 0
OpensWith leg was lent n r is lent' = Opens (leg lent.machine.now) (with was lent) n r (with is lent')

abbrev pub FilesWith : {X L : Type 0} → (X → List ℕ → L) → (X → List ℕ → Type 0) → Roll → LentMut X L → ℕ → Strip L → Result Tally (Returned L) → Roll → LentMut X L → Type 0
FilesWith leg M was lent s strip r is lent' = Files (leg lent.machine.now) (M lent.machine.now) (with was lent) s strip r (with is lent')

abbrev pub WithdrawsWith : {X L : Type 0} → (X → List ℕ → L) → (X → List ℕ → Type 0) → Roll → LentMut X L → ℕ → Result (Unit {0}) Fault → Roll → LentMut X L → Type 0
WithdrawsWith leg M was lent s r is lent' = Withdraws (leg lent.machine.now) (M lent.machine.now) (with was lent) s r (with is lent')

abbrev pub AsksWith : {X L : Type 0} → (X → List ℕ → L) → (X → List ℕ → Type 0) → Roll → Lent X L → Call → Answer → Type 0
AsksWith leg M r lent q a = Asks (leg lent.machine.now) (M lent.machine.now) (before r lent) q a
