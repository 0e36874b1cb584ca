use Rattle.std.proofs.Common.{false, ◌∙◌, sym}
use Rattle.std.proofs.lemmas.Bool.{true≢false}
use Rattle.std.proofs.lemmas.List.{get_or-replicate}
use Rattle.pattern.proofs.bytes.ByteSet.none.Goals as goal

pub returns : goal.returns
returns c = record { value = λ i lt. (λ e. true≢false (sym e ∙ get_or-replicate 256 i false false lt), λ none. absurd none) }
