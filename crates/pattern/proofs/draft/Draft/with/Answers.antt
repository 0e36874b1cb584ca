use Rattle.std.proofs.Common.{rules, subst, arith}
use Rattle.pattern.specs.Signs.{Formed}
use Rattle.pattern.proofs.Growing.{plain_grows, escape_grows, any_grows, class_grows, bar_grows, star_grows, plus_grows, question_grows, counted_grows}
use Rattle.pattern.proofs.draft.Draft.with.Goals as goal

pub pair-least-requires : goal.pair-least-requires
pair-least-requires g c = record { written = (subst (Formed _) c.in-Counted.is c.requires.formed).0 }

pub returns-in-Plain : goal.returns-in-Plain
returns-in-Plain g c = record { value = plain_grows _ _ _ _ c.requires.formed _ c.in-Plain.is (omega arith) (c.atom.ensures.value _ c.byte.ensures.value) }

pub returns-in-Escape : goal.returns-in-Escape
returns-in-Escape g c = record { value = escape_grows _ _ _ _ c.requires.formed _ c.in-Escape.is (c.atom-in-Escape.ensures.value _ c.byte-in-Escape.ensures.value) }

pub returns-in-Any : goal.returns-in-Any
returns-in-Any g c = record { value = any_grows _ _ _ _ c.requires.formed _ c.in-Any.is (c.atom-in-Any.ensures.value _ c.any.ensures.value) }

pub returns-in-Class : goal.returns-in-Class
returns-in-Class g c = record { value = class_grows _ _ _ _ c.requires.formed _ c.in-Class.is (λ s written some. c.atom-in-Class.ensures.value _ (c.class.ensures.value s some (c.bytes.ensures.value s written some))) }

pub returns-in-Bar : goal.returns-in-Bar
returns-in-Bar g c = record { value = bar_grows _ _ _ _ c.requires.formed _ c.in-Bar.is c.bar.ensures.value }

pub returns-in-Star : goal.returns-in-Star
returns-in-Star g c = record { value = star_grows _ _ _ _ c.requires.formed _ c.in-Star.is (c.repeated.ensures.value _ (λ x y f met st. search rules)) }

pub returns-in-Plus : goal.returns-in-Plus
returns-in-Plus g c = record { value = plus_grows _ _ _ _ c.requires.formed _ c.in-Plus.is (c.repeated-in-Plus.ensures.value _ (λ x y f met st. search rules)) }

pub returns-in-Question : goal.returns-in-Question
returns-in-Question g c = record { value = question_grows _ _ _ _ c.requires.formed _ c.in-Question.is (c.repeated-in-Question.ensures.value _ (λ x y f met st. search rules)) }

pub returns-in-Counted : goal.returns-in-Counted
returns-in-Counted g c = record { value = counted_grows _ _ _ _ c.requires.formed _ c.in-Counted.is _ _ c.pair-least.ensures.value (λ le. c.repeated-in-Counted.ensures.value _ (λ x y f met st. search rules)) }
