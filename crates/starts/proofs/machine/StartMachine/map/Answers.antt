use Rattle.std.proofs.Common.{◌∙◌, ap, ap₂, arith}
use Rattle.std.specs.List.{slice_get}
use Rattle.std.specs.Option.{unwrap_or}
use Rattle.starts.specs.Maps.{identity, rows}
use Rattle.starts.proofs.Rows.{row_at}
use Rattle.starts.proofs.machine.StartMachine.map.Goals as goal

pub returns : goal.returns
returns g c =
    let m = c.args.self.now in
    let read = c.unwrap_or.ensures ∙ ap₂ unwrap_or (c.get.ensures.value ∙ ap (slice_get (rows m.maps.now)) c.from.ensures.0) c.identity.ensures.value in
    record { entry = read; value = λ low. read ∙ ap (λ o. unwrap_or o (identity 0)) (row_at m.maps.now c.args.start (let room = m.follows.2 in omega arith)) }
