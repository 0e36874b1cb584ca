use Rattle.std.proofs.Common.{◌∙◌}
use Rattle.machines.proofs.SetLemmas.Moving.{leg_none}
use Rattle.machines.proofs.set.SetMachineFolding.empty.Goals as goal

pub returns : goal.returns
returns c = record { value = c.identity.ensures.value ∙ leg_none c.args.self.now.count c.args.self.now.moves.now }
