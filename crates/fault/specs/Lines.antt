-- The word of each layer, and the line of text that stands for a fault. Assumes nothing.
use Rattle.std.specs.Prelude.{ℕ, List, ◌++◌, codes, decimal}
use Rattle.fault.specs.declared.Fault.{Fault}
use Rattle.fault.specs.declared.Layer.{Layer}
use Rattle.fault.specs.declared.Layer.TheVariants.{Pattern, Build, Roll, Bundle}
use Rattle.fault.specs.Numbers.{number}

abbrev pub word : Layer → List ℕ
word Pattern = codes "pattern"
word Build = codes "build"
word Roll = codes "roll"
word Bundle = codes "bundle"

abbrev pub line : Fault → List ℕ
line f = codes "refused " ++ (decimal (number f.refusal) ++ (codes " layer " ++ (word f.layer ++ (codes " place " ++ decimal f.place))))
