use Rattle.std.proofs.Common.{◌∙◌, sym, arith}
use Rattle.machines.proofs.PlaceLemmas.Lettering.{some_set}
use Rattle.machines.proofs.place.letters.Letters.of.Goals as goal

pub invariant_of-result : goal.invariant_of-result
invariant_of-result c = record { some = some_set c.args.bytes.now c.rows.result c.rows.ensures.members c.loop-byte.byte (omega arith) (sym c.has.ensures.value ∙ c.if-has.true) }
