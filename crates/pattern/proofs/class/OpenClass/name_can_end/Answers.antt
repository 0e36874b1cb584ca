use Rattle.std.proofs.Common.{sym, arith}
use Rattle.std.proofs.lemmas.Bool.{and_left, and_right}
use Rattle.notation.proofs.Spellings.{none_at_first, none_more, none_passes}
use Rattle.pattern.proofs.ClassTests.{some_name_ends}
use Rattle.pattern.proofs.class.OpenClass.name_can_end.Goals as goal
use Rattle.pattern.proofs.class.OpenClass.name_can_end.Goals.{else-begins-via-then-begins+else-can_take, else-begins-via-else-begins}

pub loop-name-init : goal.loop-name-init
loop-name-init c = λ s makes. none_at_first _

pub returns-then-can_take : goal.returns-then-can_take
returns-then-can_take c = record { value = λ s makes. some_name_ends s _ _ c.if-begins.ensures.value (c.if-can_take.ensures.value s makes) }

pub loop-name-preserved : goal.loop-name-preserved
loop-name-preserved c = λ s makes.
    elim c.else-begins.branch [
      | else-begins-via-then-begins+else-can_take w ↦ none_more _ _ (omega arith) (and_right _ _ (sym (w.if-can_take.ensures.value s makes))) (c.loop-name.invariant s makes)
      | else-begins-via-else-begins w ↦ none_more _ _ (omega arith) (and_left _ _ (sym w.if-begins.ensures.value)) (c.loop-name.invariant s makes)
    ]

pub returns : goal.returns
returns c = record { value = λ s makes. sym (none_passes _ _ (omega arith) (c.loop-name.invariant s makes)) }
