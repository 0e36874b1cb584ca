use Rattle.std.proofs.Common.{sym, refl, ◌∙◌, subst, arith}
use Rattle.pattern.proofs.Exits.{handed_on}
use Rattle.std.proofs.lemmas.Bool.{lt-leb}
use Rattle.pattern.specs.Signs.{SignRefused}
use Rattle.pattern.proofs.Slices.{slice_part}
use Rattle.pattern.proofs.SignWays.{count_stops, counted_is}
use Rattle.pattern.proofs.SignShapes.{no_counts}
use Rattle.pattern.proofs.OneByteSigns.{no_atom}
use Rattle.pattern.proofs.sign.counted.Goals as goal

pub returns-then-not-after : goal.returns-then-not-after
returns-then-not-after c =
    let (lt, is) = c.requires.brace in
    record { cases = no_atom _ _ 123 lt is (λ fr d ctx. refl) _ _ c.if-not-after.true (λ w shaped. shaped.0) c.refuse.ensures.value }

pub returns-in_err-end : goal.returns-in_err-end
returns-in_err-end c =
    let (lt, is) = c.requires.brace in
    let refused = rw (c.next.ensures.pattern, c.next.ensures.at) at c.in_err-end.ensures.cases in
    record { cases = handed_on _ _ _ _ c.from_residual.ensures.1 (subst (λ r. SignRefused c.args.from.pattern.now c.args.from.at r c.in_err-end.field-0.0) (sym c.if-not-after.false) (record { none = no_counts _ _ lt _ is refused; stops = count_stops _ _ lt _ is refused.stops })) }

pub returns : goal.returns
returns c =
    let (lt, is) = c.requires.brace in
    let read = rw (c.next.ensures.pattern, c.next.ensures.at) at c.in_ok-end.ensures.cases in
    record {
      cases = record {
        formed = ((_, _, (read.words, c.until.ensures.value ∙ counted_is _ _ lt _ _ _ is read, read.counted)), c.if-not-after.false);
        part = rw c.until.ensures.value (slice_part _ _ _ (omega (arith, read.long)) read.within);
        ended = sym (lt-leb _ _ lt);
      };
    }
