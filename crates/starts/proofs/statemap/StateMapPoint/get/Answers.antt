use Rattle.std.proofs.Common.{◌∙◌, sym, arith}
use Rattle.starts.proofs.Rows.{row_past, held}
use Rattle.starts.proofs.statemap.StateMapPoint.get.Goals as goal

pub returns-in_err-row : goal.returns-in_err-row
returns-in_err-row c =
    record { value = c.from_residual.ensures ∙ sym (row_past c.args.cells.now c.args.number (omega (arith, c.in_err-row.ensures.lookup.3, c.as_chunks.ensures.front_len))) }

pub returns : goal.returns
returns c =
    let at = c.in_ok-row.ensures.lookup.3 in
    record { value = held c.args.cells.now c.in_ok-row.row.now c.args.number c.as_chunks.result.0.now c.as_chunks.ensures.front at.0 (at.1 _) }
