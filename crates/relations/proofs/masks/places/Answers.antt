use Rattle.relations.proofs.Shifts.{places_members}
use Rattle.relations.proofs.masks.places.Goals as goal

pub returns : goal.returns
returns c = record { members = record { at = λ p. places_members c.args.set p c.ranges.set.fits } }
