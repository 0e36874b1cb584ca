use Rattle.machines.proofs.PlaceLemmas.Parts.{part_made}
use Rattle.machines.proofs.place.PlaceMachine.new.Goals as goal

pub invariant_of-result : goal.invariant_of-result
invariant_of-result c = let whole = c.args.whole in record { made = part_made whole.tables whole.count whole.small whole.part }
