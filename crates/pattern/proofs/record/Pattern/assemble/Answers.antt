use Rattle.pattern.proofs.Outcomes.{readable_ok}
use Rattle.pattern.proofs.record.Pattern.assemble.Goals as goal

pub unwrap-requires : goal.unwrap-requires
unwrap-requires g c = readable_ok _ _ _ _ c.assemble.ensures.cases c.bytes.ensures.granted c.bytes.ensures.value
