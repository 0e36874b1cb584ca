use Rattle.std.proofs.Common.{sym, subst, arith}
use Rattle.notation.specs.Characters.{class_kind}
use Rattle.notation.specs.ClassAutomaton.{class_moves}
use Rattle.notation.proofs.CanTake.{adding_some}
use Rattle.pattern.specs.Members.{state_of, Moves}
use Rattle.pattern.proofs.ClassWays.{first_begins, next_begins}
use Rattle.pattern.proofs.member.Progress.take.Goals as goal

pub returns-in-Single-default : goal.returns-in-Single-default
returns-in-Single-default c = record {
  cases = λ s suits.
      subst (λ p. Moves s c.begin.result (class_moves (class_kind c.args.byte) c.args.byte s (state_of p)) c.begin.new.self) (sym c.in-Single-default.is-0)
      (subst (λ n. Moves s c.begin.result n c.begin.new.self) (sym (next_begins c.args.byte s c.in-Single-default.first c.in-Single-default.is-1.1)) (c.begin.ensures.cases s (λ _. adding_some s _ (omega arith))));
}

pub returns-in-Naming-default : goal.returns-in-Naming-default
returns-in-Naming-default c = record {
  cases = λ s suits. subst (λ p. Moves s c.spell.result (class_moves (class_kind c.args.byte) c.args.byte s (state_of p)) c.spell.new.self) (sym c.in-Naming-default.is-0) (c.spell.ensures.cases s);
}

pub returns-in-Opened-default : goal.returns-in-Opened-default
returns-in-Opened-default c = record { cases = λ s suits. grind (arith, first_begins, c.begin-in-Opened-default.ensures.cases s) }
