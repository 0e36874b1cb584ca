use Rattle.std.proofs.Common.{ℕ, ◌<◌}
use Rattle.pattern.specs.ByteSets.{Has as HasByte}
use Rattle.machines.proofs.place.letters.Letters.of.Given as goal

abbrev pub invariant-loop-byte : goal.invariant-loop-byte
invariant-loop-byte l = (k : ℕ) → k < l.byte → HasByte l.fn.bytes k → ⊥
