use Rattle.std.proofs.Common.{◌≡◌, ◌+◌, sym, subst, arith}
use Rattle.std.proofs.lemmas.Bool.{both_ways}
use Rattle.pattern.proofs.ClassTests.{NoneEnds, none_ends_more, some_ends, none_ends}
use Rattle.pattern.proofs.class.OpenClass.escape_can_end.Goals as goal
use Rattle.pattern.proofs.class.OpenClass.escape_can_end.Goals.{else-is_escapable-via-then-is_escapable+else-can_take, else-is_escapable-via-else-is_escapable}

pub returns-then-can_take : goal.returns-then-can_take
returns-then-can_take c = record { value = λ s makes. some_ends s _ c.loop-last.last (omega arith) (omega arith) c.if-is_escapable.ensures.value (c.if-can_take.ensures.value s makes) }

pub loop-last-preserved : goal.loop-last-preserved
loop-last-preserved c = λ s makes.
    elim c.else-is_escapable.branch [
      | else-is_escapable-via-then-is_escapable+else-can_take w ↦ none_ends_more s _ _ (c.loop-last.invariant s makes) (λ _ takes. both_ways _ (sym (w.if-can_take.ensures.value s makes)) takes)
      | else-is_escapable-via-else-is_escapable w ↦ none_ends_more s _ _ (c.loop-last.invariant s makes) (λ can _. both_ways _ (sym w.if-is_escapable.ensures.value) can)
    ]

pub returns-else-is_escapable : goal.returns-else-is_escapable
returns-else-is_escapable c = record {
  value = λ s makes.
      let end : c.loop-last.last + 1 ≡ 256 = omega arith in
      none_ends s _
      (subst (NoneEnds s c.args.first) end
      (elim c.else-is_escapable.branch [
        | else-is_escapable-via-then-is_escapable+else-can_take w ↦ none_ends_more s _ _ (c.loop-last.invariant s makes) (λ _ takes. both_ways _ (sym (w.if-can_take.ensures.value s makes)) takes)
        | else-is_escapable-via-else-is_escapable w ↦ none_ends_more s _ _ (c.loop-last.invariant s makes) (λ can _. both_ways _ (sym w.if-is_escapable.ensures.value) can)
      ]));
}
