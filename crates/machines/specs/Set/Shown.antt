-- The moves of a set machine stay among its sets. It stands here since the proof of a trait's law may cite specs/ alone. Assumes nothing.
use Rattle.std.specs.Prelude.{◌≡◌, ℕ, ◌+◌, ◌*◌, ◌<◌, List, slice_index}
use Rattle.std.proofs.Common.{subst, sym, arith}
use Rattle.machines.specs.declared.place.tables.Tables.{Tables}
use Rattle.machines.specs.Set.Runs.{moved_by}
use Rattle.machines.specs.Set.Tables.{Simulates}

module _ (t : Tables) (n : ℕ) (sets moves : List ℕ) (simulates : Simulates t n sets moves) where
  pub moved_entry : (s c : ℕ) → s < n → c < 256 → moved_by moves s c ≡ slice_index moves (256 * s + c)
  moved_entry s c low byte =
      let within = (simulates.5 s c low byte).0 in
      let few = simulates.1 in
      omega arith

  pub moved_within : (s c : ℕ) → s < n → c < 256 → moved_by moves s c < n
  moved_within s c low byte = subst (λ k. k < n) (sym (moved_entry s c low byte)) (simulates.5 s c low byte).0
