use Rattle.machines.proofs.Worked.{examples}
use Rattle.machines.proofs.examples.worked_examples.Goals as goal

pub returns-clause-stand : goal.returns-clause-stand
returns-clause-stand c = examples
