use Rattle.std.proofs.Common.{◌≡◌, ℕ, ap, ◌∙◌, arith}
use Rattle.fault.specs.declared.Layer.TheVariants.{Bundle}
use Rattle.fault.specs.declared.Refusal.TheVariants.{BundleSize}
use Rattle.bundle.proofs.Laws.{one_reading, granted}
use Rattle.bundle.proofs.decode.Bundle.decode.Goals as goal

pub returns-then-right_size-clause-one_reading : goal.returns-then-right_size-clause-one_reading
returns-then-right_size-clause-one_reading c = one_reading

pub returns-then-right_size-clause-granted : goal.returns-then-right_size-clause-granted
returns-then-right_size-clause-granted c = granted

pub returns-else-right_size-clause-one_reading : goal.returns-else-right_size-clause-one_reading
returns-else-right_size-clause-one_reading c = one_reading

pub returns-else-right_size-clause-granted : goal.returns-else-right_size-clause-granted
returns-else-right_size-clause-granted c = granted

pub returns-else-right_size-clause-cases : goal.returns-else-right_size-clause-cases
returns-else-right_size-clause-cases c = (
  λ right. absurd (let wrong = c.if-right_size.ensures.1 right in let z : ◌≡◌ {A = ℕ} 0 1 = cc in omega arith),
  c.fault.ensures.value ∙ ap (λ p. record { refusal = BundleSize; layer = Bundle; place = p }) c.min.ensures,
)
