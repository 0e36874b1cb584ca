use Rattle.std.proofs.Common.{sym, ◌∙◌, arith}
use Rattle.std.proofs.lemmas.Bool.{both_ways, false_from_ne_true}
use Rattle.pattern.specs.Members.{so_far}
use Rattle.notation.proofs.Spellings.{none_at_first, none_more, none_passes}
use Rattle.pattern.proofs.NameBytes.{some_begins_is, begins_on, begun_so, stands_at, so_far_long}
use Rattle.pattern.proofs.spelling.Spelled.then.Goals as goal
use Rattle.pattern.proofs.spelling.Spelled.then.Goals.{else-starts_with-via-then-starts_with+else-eq, else-starts_with-via-else-starts_with}

pub loop-name-init : goal.loop-name-init
loop-name-init c = none_at_first _

pub returns-then-eq : goal.returns-then-eq
returns-then-eq c =
    let found = c.get.ensures.lookup in
    let at = (stands_at _ c.args.self.len _ c.get.result found.0 found.1).0 (sym c.if-eq.ensures) in
    let (lt, is) = rw c.written-written.ensures.value at at in
    let starts = rw (c.written-written.ensures.value, c.bytes.ensures.value) at (sym c.if-starts_with.ensures.value) in
    record { cases = begins_on _ (so_far c.args.self) c.args.byte c.args.self.len starts (so_far_long c.args.self) lt is }

pub loop-name-preserved : goal.loop-name-preserved
loop-name-preserved c =
    elim c.else-starts_with.branch [
      | else-starts_with-via-then-starts_with+else-eq w ↦
          none_more _ _ (omega arith)
          (false_from_ne_true _
          (λ e.
          let (starts, lt, is) = begun_so _ (so_far c.args.self) c.args.byte e in
          let found = w.get.ensures.lookup in
          both_ways _ (sym w.if-eq.ensures) ((stands_at _ c.args.self.len _ w.get.result found.0 found.1).1 (rw (c.written-written.ensures.value, ← so_far_long c.args.self) (lt, is)))))
          c.loop-name.invariant
      | else-starts_with-via-else-starts_with w ↦
          none_more _ _ (omega arith)
          (false_from_ne_true _
          (λ e.
          let (starts, lt, is) = begun_so _ (so_far c.args.self) c.args.byte e in
          both_ways _ (rw (c.written-written.ensures.value, c.bytes.ensures.value) at (sym w.if-starts_with.ensures.value)) starts))
          c.loop-name.invariant
    ]

pub returns : goal.returns
returns c = record { cases = some_begins_is _ ∙ none_passes _ _ (omega arith) c.loop-name.invariant }
