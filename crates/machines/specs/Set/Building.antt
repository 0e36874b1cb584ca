-- What the build of the set machine's tables answers, and what it leaves in the two tables that it is lent. Assumes nothing.
--
--   MoreMasks t                     more than 64 different sets of states are reached by the tables t
--   SetsGranted t n sets moves     there are n sets, which is not more than 64, and the tables are theirs
--   SetsRefused t .. f ..          the fault f, by the tables that were lent and what is left in them: the wrong length of the sets first, then that of
--                                  the moves, and nothing has changed; or more than 64 sets, and both tables are all zero
use Rattle.std.specs.Prelude.{◌≡◌, ℕ, ◌≢◌, ◌⊎◌, List, length, replicate}
use Rattle.fault.specs.declared.Fault.{Fault}
use Rattle.fault.specs.declared.Refusal.TheVariants.{TableLength, TooManySets}
use Rattle.numbering.specs.Reaching.{MoreThan}
use Rattle.starts.specs.Building.{unbuilt}
use Rattle.machines.specs.declared.place.tables.Tables.{Tables}
use Rattle.machines.specs.Place.Runs.{stepped}
use Rattle.machines.specs.Set.Tables.{initial, SetTables}

abbrev pub MoreMasks : Tables → Type 0
MoreMasks t = MoreThan 64 initial (stepped t)

abbrev pub SetsGranted : Tables → ℕ → List ℕ → List ℕ → Type 0
SetsGranted t n sets moves = (MoreMasks t → ⊥) × SetTables t n sets moves

abbrev pub SetsRefused : Tables → List ℕ → List ℕ → Fault → List ℕ → List ℕ → Type 0
SetsRefused t sets moves f sets' moves' =
    ((length sets ≢ 64) × (f ≡ unbuilt TableLength 0) × (sets' ≡ sets) × (moves' ≡ moves))
    ⊎ ((length sets ≡ 64) × (length moves ≢ 16384) × (f ≡ unbuilt TableLength 1) × (sets' ≡ sets) × (moves' ≡ moves))
    ⊎ ((length sets ≡ 64) × (length moves ≡ 16384) × MoreMasks t × (f ≡ unbuilt TooManySets 0) × (sets' ≡ replicate 64 0) × (moves' ≡ replicate 16384 0))
