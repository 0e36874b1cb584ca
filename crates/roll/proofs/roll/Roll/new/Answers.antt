use Rattle.std.proofs.Common.{refl}
use Rattle.roll.specs.Runs.{made}
use Rattle.roll.proofs.Lawful.{lawful}
use Rattle.roll.proofs.roll.Roll.new.Goals as goal

pub returns-clause-begins : goal.returns-clause-begins
returns-clause-begins g c m = made c.new.ensures refl refl

pub returns-clause-law : goal.returns-clause-law
returns-clause-law g c m o = lawful _ _ _ _ (g.met.M.Judging.inhabited m)
