use Rattle.std.proofs.Common.{◌≡◌, ◌<◌, length, Some, None, sym, refl, ap, ◌∙◌, subst}
use Rattle.folding.proofs.Putting.{puts_even}
use Rattle.roll.specs.Plain.{texts}
use Rattle.fault.specs.declared.Refusal.TheVariants.{SlotEmpty}
use Rattle.roll.specs.Refusals.{withdrawal, fault, room}
use Rattle.roll.specs.Stands.{slots}
use Rattle.roll.proofs.Granting.{room_none, room_half, withdrawal_at, refused_not_none}
use Rattle.roll.proofs.Standing.{length_texts, mark_written, stands_set, grants, refuses}
use Rattle.roll.proofs.roll.Roll.withdraw.Goals as goal

pub returns-clause-withdraws : goal.returns-clause-withdraws
returns-clause-withdraws g c =
    let self = c.args.self.now in
    let slot = c.args.slot in
    let granted : None ≡ room (length (slots self)) slot (length c.args.lent.now.legs.now) (length c.args.lent.now.tallies.now) =
    c.in_ok-slot_at.ensures.value ∙ (λ i. room (length (slots self)) slot (length (c.shared.ensures.legs i)) (length (c.shared.ensures.tallies i))) in
    let in' : slot < length (slots self) = room_none _ slot _ _ (sym granted) in
    let half = room_half _ slot _ _ (sym granted) in
    let marks = mark_written _ _ slot _ _ c.as_mut_slice.ensures.value c.clear.ensures.after in
    record {
      does = record {
        always = grants _ refl (withdrawal_at self slot _ _ _ _ granted c.deref.ensures.0 c.if-not-is_held.ensures.value) marks;
        keeps = λ p stands free.
            let lt : slot < length (texts p) = subst (λ n. slot < n) (sym (length_texts stands)) in' in (
              refl,
              stands_set _ _ _ p stands slot None tt marks
                  (puts_even _ _ _ _ _ c.put.ensures.cells (texts p) _ stands.bytes tt lt stands.legs c.empty-empty.ensures.value)
                  (puts_even _ _ _ _ _ c.put-2.ensures.cells (texts p) _ stands.bytes tt lt stands.tallies c.empty.ensures.value),
            );
      };
      touches = λ free. record {
        legs = c.put.ensures.others;
        tallies = c.put-2.ensures.others;
        own_leg = λ d. c.put.ensures.own d half.0 ∙ c.empty-empty.ensures.value;
        own_tally = λ d. c.put-2.ensures.own d half.1 ∙ c.empty.ensures.value;
      };
    }

pub returns-then-not-is_held-clause-withdraws : goal.returns-then-not-is_held-clause-withdraws
returns-then-not-is_held-clause-withdraws g c =
    let self = c.args.self.now in
    let slot = c.args.slot in
    let granted : None ≡ room (length (slots self)) slot (length c.args.lent.now.legs.now) (length c.args.lent.now.tallies.now) =
    c.in_ok-slot_at.ensures.value ∙ (λ i. room (length (slots self)) slot (length (c.shared.ensures.legs i)) (length (c.shared.ensures.tallies i))) in
    let which = withdrawal_at self slot _ _ _ _ granted c.deref.ensures.0 c.if-not-is_held.ensures.value in
    record {
      does = record {
        always = refuses _ (withdrawal slot) _ (fault SlotEmpty slot) (ap Some c.fault.ensures.value) which;
        keeps = λ p stands free. absurd (refused_not_none _ _ which free);
      };
      touches = λ free. absurd (refused_not_none _ _ which free);
    }
