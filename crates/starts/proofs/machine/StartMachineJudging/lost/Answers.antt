use Rattle.starts.proofs.machine.StartMachineJudging.lost.Goals as goal

pub returns : goal.returns
returns g c = record { cases = λ w bytes is. c.dead.ensures.cases w bytes (c.state.ensures.value w bytes is) }
