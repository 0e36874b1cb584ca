-- What an operation on tables makes of the parts whose tables they are. Only private functions cite it. Assumes nothing.
--
--   Changes make by    of the tables of e it makes those of `make e`, a part with as many places as e
--   Combines make by   of the tables of e and those of f, f's places moved behind e's, it makes those of `make e f`, a part with
--                      the places of both
--   ChangesSome by, CombinesSome by   it does so for some `make`
use Rattle.std.specs.Prelude.{◌≡◌, ℕ, ◌+◌, ◌≤◌}
use Rattle.notation.specs.Expressions.{Regex}
use Rattle.notation.specs.Places.{places}
use Rattle.machines.specs.declared.place.tables.Tables.{Tables}
use Rattle.machines.specs.Place.Operations.{Later}
use Rattle.machines.specs.Place.Fragments.{Represents}
use Rattle.machines.specs.Soundness.{Sane}

pub record Changes (make : Regex → Regex) (by : Tables → Tables → Type 0) : Type 0 where
  pub sane : (e : Regex) → Sane e → Sane (make e)
  pub places : (e : Regex) → places (make e) ≡ places e
  pub tables : (e : Regex) (a r : Tables) (n : ℕ) → Represents e a n → by a r → Represents (make e) r n

abbrev pub ChangesSome : (Tables → Tables → Type 0) → Type 0
ChangesSome by = ∥ ((make : Regex → Regex) × Changes make by) ∥₁

pub record Combines (make : Regex → Regex → Regex) (by : Tables → Tables → Tables → Type 0) : Type 0 where
  pub sane : (e f : Regex) → Sane e → Sane f → Sane (make e f)
  pub places : (e f : Regex) → places (make e f) ≡ places e + places f
  pub tables : (e f : Regex) (a b moved r : Tables) (m n : ℕ) → Represents e a m → Represents f b n → m + n ≤ 63 → Later m b moved → by a moved r → Represents (make e f) r (m + n)

abbrev pub CombinesSome : (Tables → Tables → Tables → Type 0) → Type 0
CombinesSome by = ∥ ((make : Regex → Regex → Regex) × Combines make by) ∥₁
