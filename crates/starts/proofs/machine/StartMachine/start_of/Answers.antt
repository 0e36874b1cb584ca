use Rattle.starts.proofs.Tabling.{found}
use Rattle.starts.proofs.machine.StartMachine.start_of.Goals as goal

pub returns : goal.returns
returns g c =
    let m = c.args.self.now in
    record { value = λ r low is. found _ (g.A.Automaton.moved m.automaton.now) m.count m.maps.now m.moves.now m.follows c.args.map.now r c.find.result c.unwrap_or.result c.nth.result low is c.find.ensures.cases c.unwrap_or.ensures c.nth.ensures.value }
