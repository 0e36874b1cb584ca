-- The fault of an input whose size is not that of a bundle. Assumes nothing.
use Rattle.std.specs.Prelude.{◌≡◌, ℕ, min, List, length}
use Rattle.fault.specs.declared.Fault.{Fault}
use Rattle.fault.specs.declared.Layer.TheVariants.{Bundle}
use Rattle.fault.specs.declared.Refusal.TheVariants.{BundleSize}
use Rattle.bundle.specs.Sizes.{RightSize}

-- a longer input counts as 32769 bytes
abbrev pub wrong_size : List ℕ → Fault
wrong_size bs = record { refusal = BundleSize; layer = Bundle; place = min (length bs) 32769 }

-- the size of bs is wrong, and f is its fault
abbrev pub WrongSize : List ℕ → Fault → Type 0
WrongSize bs f = (RightSize bs → ⊥) × (f ≡ wrong_size bs)
