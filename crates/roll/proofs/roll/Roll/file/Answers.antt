use Rattle.std.proofs.Common.{◌≡◌, ◌<◌, [], length, Some, None, sym, refl, ap, ◌∙◌, subst}
use Rattle.std.specs.Result.{result_err}
use Rattle.roll.specs.Calls.{tallied}
use Rattle.folding.proofs.Putting.{puts_even}
use Rattle.roll.specs.Plain.{texts}
use Rattle.roll.specs.Refusals.{filing, room}
use Rattle.roll.specs.Stands.{slots}
use Rattle.roll.proofs.Granting.{room_none, room_half, refused_not_none}
use Rattle.roll.proofs.Standing.{length_texts, mark_written, stands_set, grants, refuses}
use Rattle.roll.proofs.roll.Roll.file.Goals as goal

pub returns-clause-files : goal.returns-clause-files
returns-clause-files g c =
    let slot = c.args.slot in
    let self = c.args.self.now in
    let granted : room (length (slots self)) slot (length c.args.lent.now.legs.now) (length c.args.lent.now.tallies.now) ≡ None =
    sym (c.in_default.ensures.value ∙ (λ i. room (length (slots self)) slot (length (c.shared.ensures.legs i)) (length (c.shared.ensures.tallies i)))) in
    let in' : slot < length (slots self) = room_none _ slot _ _ granted in
    let half = room_half _ slot _ _ granted in
    let marks = mark_written _ _ slot _ _ c.as_mut_slice.ensures.value c.hold.ensures.after in
    record {
      always = grants _ refl granted marks;
      back = tt;
      answer = λ free. refl;
      touches = λ free. record {
        legs = c.put.ensures.others;
        tallies = c.put-2.ensures.others;
        own_leg = λ d. c.put.ensures.own d half.0;
        own_tally = λ d. c.put-2.ensures.own d half.1;
      };
      keeps = λ w h p stands free.
          let lt : slot < length (texts p) = subst (λ n. slot < n) (sym (length_texts stands)) in' in (
            ap tallied h.counted.tallies,
            stands_set _ _ _ p stands slot (Some w) h.counted.bytes marks
                (puts_even _ _ _ _ _ c.put.ensures.cells (texts p) w stands.bytes h.counted.bytes lt stands.legs h.legs)
                (puts_even _ _ _ _ _ c.put-2.ensures.cells (texts p) w stands.bytes h.counted.bytes lt stands.tallies h.counted.tallies),
          );
    }

pub returns-in-Err-clause-files : goal.returns-in-Err-clause-files
returns-in-Err-clause-files g c =
    let slot = c.args.slot in
    let self = c.args.self.now in
    let refused : room (length (slots self)) slot (length c.args.lent.now.legs.now) (length c.args.lent.now.tallies.now) ≡ Some c.in-Err.fault =
    sym (sym (ap result_err c.in-Err.is) ∙ c.slot_at.ensures.value ∙ (λ i. room (length (slots self)) slot (length (c.shared.ensures.legs i)) (length (c.shared.ensures.tallies i)))) in
    record {
      always = refuses _ (filing slot []) _ c.in-Err.fault refl refused;
      back = refl;
      answer = λ free. absurd (refused_not_none _ _ refused free);
      touches = λ free. absurd (refused_not_none _ _ refused free);
      keeps = λ w h p stands free. absurd (refused_not_none _ _ refused free);
    }
