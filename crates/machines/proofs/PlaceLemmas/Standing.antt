-- What stands for one expression stands for another whose places are written out in the same way. Assumes nothing.
use Rattle.std.proofs.Common.{◌≡◌, Option, Some, None, refl, arith}
use Rattle.notation.specs.Expressions.{seq, star, plus, Regex}
use Rattle.notation.specs.Places.{places}
use Rattle.machines.specs.declared.place.fragment.Numbered.{Numbered}
use Rattle.machines.specs.Soundness.{Sane}
use Rattle.machines.specs.Place.Spellings.{spread}
use Rattle.machines.specs.Place.Standing.{StandsFor}
use Rattle.machines.proofs.PlaceLemmas.Parts.{same_part}

pub sane : (e : Regex) (o : Option Numbered) → StandsFor e o → Sane e
sane e None x = x.0
sane e (Some p) x = x.sane

module _ (e e' : Regex) (both_sane : Sane e → Sane e') (same : places e ≡ places e') (written : spread 1 e ≡ spread 1 e') where
  pub same_stands : (o : Option Numbered) → StandsFor e o → StandsFor e' o
  same_stands None x = (both_sane x.0, let many = x.1 in omega arith)
  same_stands (Some p) x = same_part e e' p.tables p.count (both_sane x.sane) same written x

pub plus_stands : (e : Regex) (o : Option Numbered) → StandsFor (seq e (star e)) o → StandsFor (plus e) o
plus_stands e o x = same_stands (seq e (star e)) (plus e) (λ s. s.0) (omega arith) refl o x
