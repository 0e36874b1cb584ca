use Rattle.std.proofs.Common.{get_or, refl, arith}
use Rattle.pattern.proofs.SignWays.{one_byte, not_special}
use Rattle.pattern.proofs.OneByteSigns.{one_handed, no_sign, repeat_handed}
use Rattle.pattern.proofs.sign.sign_at.Goals as goal

pub returns-in-93 : goal.returns-in-93
returns-in-93 c = record { cases = no_sign _ _ 93 c.if-at-p.false c.in-93.is (λ fr d ctx. refl) _ _ refl (λ w shaped. shaped) c.refuse.ensures.value }

pub returns-in-125 : goal.returns-in-125
returns-in-125 c = record { cases = no_sign _ _ 125 c.if-at-p.false c.in-125.is (λ fr d ctx. refl) _ _ refl (λ w shaped. shaped) c.refuse-in-125.ensures.value }

pub returns-in-42 : goal.returns-in-42
returns-in-42 c = record { cases = repeat_handed _ _ 42 c.if-at-p.false c.in-42.is (λ fr d ctx. refl) _ _ _ c.repeat_sign.ensures.cases (λ w shaped. shaped) (λ whole again. (whole, again)) refl refl }

pub returns-in-43 : goal.returns-in-43
returns-in-43 c = record { cases = repeat_handed _ _ 43 c.if-at-p.false c.in-43.is (λ fr d ctx. refl) _ _ _ c.repeat_sign-in-43.ensures.cases (λ w shaped. shaped) (λ whole again. (whole, again)) refl refl }

pub returns-in-63 : goal.returns-in-63
returns-in-63 c = record { cases = repeat_handed _ _ 63 c.if-at-p.false c.in-63.is (λ fr d ctx. refl) _ _ _ c.repeat_sign-in-63.ensures.cases (λ w shaped. shaped) (λ whole again. (whole, again)) refl refl }

pub returns-in_default : goal.returns-in_default
returns-in_default c = record {
  cases = one_handed _ _ _ c.if-at-p.false refl _ _
      (_, one_byte _ _ c.if-at-p.false _ refl, not_special (get_or c.args.p.now c.args.at 0) (omega arith) (omega arith) (omega arith) (omega arith) (omega arith) (omega arith) (omega arith) (omega arith) (omega arith) (omega arith) (omega arith) (omega arith)) refl refl;
}
