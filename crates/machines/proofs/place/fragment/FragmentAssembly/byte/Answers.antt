use Rattle.std.proofs.Common.{inl, arith}
use Rattle.notation.specs.Expressions.{byte}
use Rattle.machines.proofs.place.fragment.FragmentAssembly.byte.Goals as goal

pub returns : goal.returns
returns c = record { value = c.class.ensures.value (byte c.args.b) (c.args.b, c.ranges.b.fits, inl (omega arith, omega arith)) c.range.ensures.value }
