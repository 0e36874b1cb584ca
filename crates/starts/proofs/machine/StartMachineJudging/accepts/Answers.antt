use Rattle.starts.proofs.machine.StartMachineJudging.accepts.Goals as goal

pub returns : goal.returns
returns g c = record { cases = λ w bytes is. c.accepting.ensures.cases w bytes (c.state.ensures.value w bytes is) }
