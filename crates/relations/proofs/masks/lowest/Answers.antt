use Rattle.std.proofs.Common.{◌≡◌, ⊎_elim, arith}
use Rattle.std.specs.Int.{w64, trailing_zeros}
use Rattle.std.proofs.lemmas.Bool.{cases_lt}
use Rattle.std.proofs.lemmas.Nat.Bits.{bit_at-trailing_zeros}
use Rattle.relations.proofs.masks.lowest.Goals as goal

pub returns : goal.returns
returns c =
    let (small, member, none) = bit_at-trailing_zeros w64 c.args.set (let some = c.requires.some in omega arith) c.ranges.set.fits in
    let is : c.nth.result ≡ trailing_zeros w64 c.args.set = omega (arith, c.nth.ensures.value, small) in
    rw is (record {
      value = record { member = member; first = λ p has. ⊎_elim (λ lt. absurd (let z = none p lt in omega arith)) (λ le. le) (cases_lt p _) };
    })
