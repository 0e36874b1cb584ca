use Rattle.pattern.proofs.ClassTests.{leaves_some}
use Rattle.pattern.proofs.class.OpenClass.can_take.Goals as goal

pub returns : goal.returns
returns c = record { value = λ s makes. leaves_some c.args.self.now c.add.new.self s c.args.more c.if-not-self.false makes (c.add.ensures.value s makes) _ c.is_full.ensures.value }
