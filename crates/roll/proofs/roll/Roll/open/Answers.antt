use Rattle.std.proofs.Common.{◌≡◌, false, length, Some, None, sym, refl, ap, ◌∙◌}
use Rattle.fault.specs.declared.Refusal.TheVariants.{SlotCount}
use Rattle.roll.specs.Refusals.{opening, fault, unless, first, tables}
use Rattle.roll.specs.Sizes.{allowed}
use Rattle.roll.proofs.Granting.{tables_none, opening_none, refused_not_none}
use Rattle.roll.proofs.Standing.{stands_empty, grants, refuses}
use Rattle.roll.proofs.roll.Roll.open.Goals as goal

pub returns-clause-opens : goal.returns-clause-opens
returns-clause-opens g c =
    let granted : None ≡ tables c.args.n (length c.args.lent.now.legs.now) (length c.args.lent.now.tallies.now) =
    c.in_ok-fit.ensures.value ∙ (λ i. tables c.args.n (length (c.shared.ensures.legs i)) (length (c.shared.ensures.tallies i))) in
    let fits = tables_none c.args.n _ _ (sym granted) in
    record {
      always = grants _ refl (opening_none c.args.n _ _ (sym c.if-not-allowed.ensures.value) granted) c.empty_slots-slots.ensures.value;
      keeps = λ granted. stands_empty _ _ c.args.n c.empty_slots-slots.ensures.value (c.clear.ensures.cells.1 c.args.n fits.0) (c.clear-2.ensures.cells.1 c.args.n fits.1);
    }

pub returns-then-not-allowed-clause-opens : goal.returns-then-not-allowed-clause-opens
returns-then-not-allowed-clause-opens g c =
    let n = c.args.n in
    let size : allowed n ≡ false = sym c.if-not-allowed.ensures.value in
    let refused : first (unless (allowed n) (fault SlotCount n)) (tables n (length c.args.lent.now.legs.now) (length c.args.lent.now.tallies.now)) ≡ Some (fault SlotCount n) =
    ap (λ b. first (unless b (fault SlotCount n)) (tables n (length c.args.lent.now.legs.now) (length c.args.lent.now.tallies.now))) size in
    record {
      always = refuses _ (opening n) _ (fault SlotCount n) (ap Some c.fault.ensures.value) refused;
      keeps = λ free. absurd (refused_not_none _ _ refused free);
    }
