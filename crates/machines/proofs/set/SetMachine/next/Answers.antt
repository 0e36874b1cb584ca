use Rattle.std.proofs.Common.{ℕ, ◌+◌, ◌*◌, ◌%◌, get_or, ap, ap₂, ◌∙◌}
use Rattle.machines.specs.Set.Shown.{moved_entry}
use Rattle.machines.proofs.set.SetMachine.next.Goals as goal

pub returns : goal.returns
returns c =
    let m = c.args.self.now in
    let entry = λ (s : ℕ) (b : ℕ). get_or m.moves.now (256 * s + b) 0 in
    let read = c.nth.ensures.value ∙ ap (λ k. k % 64) (c.from-3.ensures ∙ ap₂ entry c.from.ensures.0 c.from-2.ensures) in
    record { entry = read; value = λ low. read ∙ moved_entry m.place.tables m.count m.sets.now m.moves.now m.simulates c.args.from c.args.c low c.ranges.c.fits }
