use Rattle.std.proofs.Common.{◌≡◌, ◌<◌, length, sym, ap, ◌∙◌, arith}
use Rattle.std.proofs.lemmas.List.{take_all}
use Rattle.notation.specs.Names.{written}
use Rattle.notation.specs.ClassAutomaton.{spelling}
use Rattle.notation.proofs.Spellings.{whole_name, no_whole}
use Rattle.pattern.proofs.spelling.Spelled.whole.Goals as goal

pub returns-then-self-written : goal.returns-then-self-written
returns-then-self-written c =
    let all : c.args.self.len ≡ length (written c.args.self.name) = c.if-self-written.true ∙ ap length c.written.ensures.value in
    record { value = sym (ap spelling (take_all c.args.self.len (written c.args.self.name) (omega (arith, all))) ∙ whole_name c.args.self.name) }

pub returns-else-self-written : goal.returns-else-self-written
returns-else-self-written c =
    let lt : c.args.self.len < length (written c.args.self.name) = omega (arith, c.args.self.within, ap length c.written.ensures.value) in
    record { value = sym (no_whole c.args.self.name c.args.self.len lt) }
