use Rattle.machines.proofs.PlaceLemmas.Smallest.{nothing_by}
use Rattle.machines.proofs.place.tables.Tables.nothing.Goals as goal

pub returns : goal.returns
returns c = record { members = nothing_by c.single.result (rw c.initial.ensures.value at c.single.ensures.members) }
