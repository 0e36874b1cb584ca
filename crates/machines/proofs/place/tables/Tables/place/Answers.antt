use Rattle.std.proofs.Common.{◌∙◌}
use Rattle.machines.proofs.PlaceLemmas.Smallest.{place_by}
use Rattle.machines.proofs.place.tables.Tables.place.Goals as goal

pub returns : goal.returns
returns c = record {
  members = place_by c.single-place.result (rw c.nth.ensures.value at c.single-place.ensures.members) c.args.takes c.from.result (c.from.ensures.0 ∙ c.initial.ensures.value);
}
