use Rattle.std.proofs.Common.{◌≡◌, [], length, get_or, Some, None, Option, MatchOption, unwrap_or, ap, ◌∙◌, sym, arith, lit≤, pow_pos, rules}
use Rattle.folding.proofs.Entries.{length_cells, get_or_cells, half_cells}
use Rattle.folding.proofs.Trees.{under_root}
use Rattle.folding.proofs.cells.whole.Goals as goal

copied_or : {X : Type 0} (copy : Option X) (A : Type 0) (r d : X) → MatchOption copy A (λ x. r ≡ x) → (A → r ≡ d) → r ≡ unwrap_or copy d
copied_or (Some x) A r d is none = is
copied_or None A r d is none = none is

pub returns-clause-cell : goal.returns-clause-cell
returns-clause-cell g c =
    let empty = g.F.Folding.leg c.args.folding.now [] in
    copied_or c.copied.result _ c.unwrap_or_else.result empty c.unwrap_or_else.ensures (λ called. search rules)
    ∙ ap (λ o. unwrap_or o empty) c.copied.ensures
    ∙ c.get.ensures.lookup.4 (lit≤ tt) empty

pub returns-clause-value : goal.returns-clause-value
returns-clause-value g c k long slots bytes is =
    let leg = g.F.Folding.leg c.args.folding.now in
    let size = ap length is ∙ length_cells leg slots in
    let n = half_cells leg slots _ is in
    let some = pow_pos k in
    returns-clause-cell g c
    ∙ ap (λ l. get_or l 1 (leg [])) is
    ∙ get_or_cells leg slots 1 (leg []) (omega arith)
    ∙ ap leg (under_root slots k (sym n ∙ long))
