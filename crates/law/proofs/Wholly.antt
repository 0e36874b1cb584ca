-- A machine that means what a pattern means has the whole law. Assumes nothing.
use Rattle.std.specs.Prelude.{ℕ, List, []}
use Rattle.folding.specs.Sets.{Hopeful}
use Rattle.notation.specs.Reading.{Readable}
use Rattle.roll.proofs.Lawful.{lawful}
use Rattle.law.specs.Whole.{MeansPattern, Whole}

pub wholly : {L K : Type 0} (p : List ℕ) (leg : List ℕ → L) (M : List ℕ → Type 0) (leg' : List ℕ → K) (M' : List ℕ → Type 0) → Readable p → MeansPattern p M → Hopeful M [] → Whole p leg M leg' M'
wholly p leg M leg' M' read means some =
    let law = lawful leg M leg' M' some in
    record {
      read = read;
      means = means;
      law = law;
      one_pattern = λ there.
          let e = read.0 in
          law.alike (λ w bytes.
          let own = means e read.1 w bytes in
          let other = there e read.1 w bytes in
          (λ x. other.1 (own.0 x), λ x. own.1 (other.0 x)));
    }
