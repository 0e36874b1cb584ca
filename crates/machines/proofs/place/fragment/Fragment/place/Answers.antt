use Rattle.std.proofs.Common.{arith}
use Rattle.machines.proofs.PlaceLemmas.Parts.{place_part, place_is_part}
use Rattle.machines.proofs.place.fragment.Fragment.place.Goals as goal

pub invariant_of-result : goal.invariant_of-result
invariant_of-result c =
    let l = c.args.letters.now in
    record { small = omega arith; part = place_is_part l.takes c.place.result l.some c.place.ensures.members }

pub returns : goal.returns
returns c = record { value = λ s some letters. place_part s c.args.letters.now.takes c.place.result some letters c.place.ensures.members }
