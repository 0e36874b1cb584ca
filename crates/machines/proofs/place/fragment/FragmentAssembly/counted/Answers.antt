use Rattle.std.proofs.Common.{◌-◌, subst}
use Rattle.notation.specs.Expressions.{opt}
use Rattle.machines.specs.Place.Spellings.{copies}
use Rattle.machines.specs.Place.Standing.{StandsFor}
use Rattle.machines.proofs.PlaceLemmas.Copies.{counted_stands}
use Rattle.machines.proofs.PlaceLemmas.Standing.{sane}
use Rattle.machines.proofs.place.fragment.FragmentAssembly.counted.Goals as goal

pub returns : goal.returns
returns c = record {
  value = λ e le x.
      let m = c.args.least in
      let n = c.args.most in
      let spare = c.repeated-spare.ensures.value (opt e) (c.optional.ensures.value e x) in
      counted_stands m n e c.then.result.part le (sane e c.args.self.now.part x)
      (c.then.ensures.value (copies m e) (copies (n - m) (opt e)) (c.repeated.ensures.value e x) (subst (λ k. StandsFor (copies k (opt e)) c.repeated-spare.result.part) c.saturating_sub.ensures spare));
}
