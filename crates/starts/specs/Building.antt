-- What the build of the start machine's tables answers, and what it leaves in the two tables that it is lent. Assumes nothing.
--
--   MoreMaps k moved r             more than r different maps are made by texts, in an automaton with k states
--   StartsGranted k moved n ..       there are n starts, which is not more than there are rows, and the tables are theirs
--   unbuilt why at                   a fault of the layer build
--   HasRows maps r                   the table of maps has r rows, 1 to 512
--   StartsRefused k moved .. f ..    the fault f, by the tables that were lent and what is left in them: the wrong length of the maps first, then that of
--                                    the moves, and nothing has changed; or more starts than rows, at their number, and both tables are all zero
use Rattle.std.specs.Prelude.{◌≡◌, ℕ, ◌*◌, ◌/◌, ◌≤◌, ◌≢◌, ◌⊎◌, List, length, replicate}
use Rattle.fault.specs.declared.Fault.{Fault}
use Rattle.fault.specs.declared.Layer.TheVariants.{Build}
use Rattle.fault.specs.declared.Refusal.{Refusal}
use Rattle.fault.specs.declared.Refusal.TheVariants.{TableLength, TooManyStarts}
use Rattle.numbering.specs.Reaching.{MoreThan}
use Rattle.starts.specs.Maps.{identity, then_byte}
use Rattle.starts.specs.Starts.{StartTables}

abbrev pub unbuilt : Refusal → ℕ → Fault
unbuilt r at = record { refusal = r; layer = Build; place = at }

abbrev pub MoreMaps : ℕ → (ℕ → ℕ → ℕ) → ℕ → Type 0
MoreMaps k moved r = MoreThan r (identity k) (then_byte k moved)

abbrev pub HasRows : List ℕ → ℕ → Type 0
HasRows maps r = (1 ≤ r) × (r ≤ 512) × (length maps ≡ 64 * r)

abbrev pub StartsGranted : ℕ → (ℕ → ℕ → ℕ) → ℕ → List ℕ → List ℕ → Type 0
StartsGranted k moved n maps moves = (MoreMaps k moved (length maps / 64) → ⊥) × StartTables k moved n maps moves

abbrev pub StartsRefused : ℕ → (ℕ → ℕ → ℕ) → List ℕ → List ℕ → Fault → List ℕ → List ℕ → Type 0
StartsRefused k moved maps moves f maps' moves' =
    (((r : ℕ) → HasRows maps r → ⊥) × (f ≡ unbuilt TableLength 0) × (maps' ≡ maps) × (moves' ≡ moves))
    ⊎ ((r : ℕ) × HasRows maps r × (
    ((length moves ≢ 256 * r) × (f ≡ unbuilt TableLength 1) × (maps' ≡ maps) × (moves' ≡ moves))
    ⊎ ((length moves ≡ 256 * r) × MoreMaps k moved r × (f ≡ unbuilt TooManyStarts r) × (maps' ≡ replicate (64 * r) 0) × (moves' ≡ replicate (256 * r) 0))))
