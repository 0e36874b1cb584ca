-- What stays lent through two calls stays lent through both, and a call on what is the same does the same. Assumes nothing.
use Rattle.std.proofs.Common.{◌≡◌, ℕ, List, refl, subst, ◌∙◌}
use Rattle.folding.specs.declared.tally.Tally.{Tally}
use Rattle.roll.specs.Calls.{Answer}
use Rattle.roll.specs.Lending.{StillLent}
use Rattle.roll.specs.Refusals.{Call}
use Rattle.roll.specs.Stands.{state}
use Rattle.roll.specs.Steps.{Does}
use Rattle.roll.specs.declared.lent.LentMut.{LentMut}
use Rattle.roll.specs.declared.roll.Roll.{Roll}

pub still_lent : {M L : Type 0} {was is now : LentMut M L} → StillLent was is → StillLent is now → StillLent was now
still_lent first second = record {
  machine = second.machine ∙ first.machine;
  legs = second.legs ∙ first.legs;
  tallies = second.tallies ∙ first.tallies;
  leg_count = second.leg_count ∙ first.leg_count;
  tally_count = second.tally_count ∙ first.tally_count;
}

pub not_touched : {M L : Type 0} {was : LentMut M L} → StillLent was was
not_touched = record { machine = refl; legs = refl; tallies = refl; leg_count = refl; tally_count = refl }

-- what a call does under a machine and on cells that are the same
pub does_at : {X L : Type 0} (leg : X → List ℕ → L) (M : X → List ℕ → Type 0) {x y : X} (r : Roll) {l l' : List L} {t t' : List Tally} (c : Call) (a : Answer) → x ≡ y → l ≡ l' → t ≡ t' → Does (leg x) (M x) (state r l t) c a (state r l t) → Does (leg y) (M y) (state r l' t') c a (state r l' t')
does_at leg M r c a machine legs tallies does = subst (λ z. z) (λ i. Does (leg (machine i)) (M (machine i)) (state r (legs i) (tallies i)) c a (state r (legs i) (tallies i))) does
