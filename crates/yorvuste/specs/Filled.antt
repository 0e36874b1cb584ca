-- A roll that holds a text from its first slot on; private functions alone cite this. Assumes nothing.
--
--   Filled leg s w   s stands for 128 slots that hold w
--   FilledWith       the same of a roll and of what is lent with its calls, under the machine that was lent
use Rattle.std.specs.Prelude.{◌≡◌, ℕ, List, length}
use Rattle.roll.specs.Lending.{with}
use Rattle.roll.specs.Plain.{Plain, whole}
use Rattle.roll.specs.Stands.{State, Stands}
use Rattle.roll.specs.declared.lent.LentMut.{LentMut}
use Rattle.roll.specs.declared.roll.Roll.{Roll}

pub record Filled {L : Type 0} (leg : List ℕ → L) (s : State L) (w : List ℕ) : Type 0 where
  pub plain : Plain
  pub stands : Stands leg s plain
  pub slots : length plain ≡ 128
  pub holds : whole plain ≡ w

abbrev pub FilledWith : {X L : Type 0} → (X → List ℕ → L) → LentMut X L → List ℕ → Roll → LentMut X L → Type 0
FilledWith leg was w roll lent = Filled (leg was.machine.now) (with roll lent) w
