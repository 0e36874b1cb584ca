-- Whatever was lent, the slots held and the refusals are those that the calls say. Assumes nothing.
use Rattle.std.proofs.Common.{◌≡◌, List, Some, None, Option, sym, refl, ap, ◌∙◌}
use Rattle.fault.specs.declared.Fault.{Fault}
use Rattle.roll.specs.Calls.{Answer, done, tallied, judged, named, refused}
use Rattle.roll.specs.Histories.{keep, held, Due}
use Rattle.roll.specs.Refusals.{refusal, marked}
use Rattle.roll.specs.Runs.{Event, Met, new, met}
use Rattle.roll.specs.Stands.{slots}
use Rattle.roll.specs.Steps.{fault_of}
use Rattle.roll.specs.declared.roll.Roll.{Roll}
use Rattle.roll.proofs.Granting.{refused_not_none}

refused_by : (a : Answer) (f : Fault) → fault_of a ≡ Some f → a ≡ refused f
refused_by done f e = absurd (refused_not_none _ f e refl)
refused_by (tallied t) f e = absurd (refused_not_none _ f e refl)
refused_by (judged b) f e = absurd (refused_not_none _ f e refl)
refused_by (named c) f e = absurd (refused_not_none _ f e refl)
refused_by (refused g) f e = cc

pub meeting : {r : Roll} {h : List Event} → Met r h → (slots r ≡ held h) × Due h
meeting (new fresh) = (fresh, tt)
meeting (met {was = was} {is = is} {h = h} {c = c} {a = a} l t before on) =
    let so_far = meeting before in
    let due = ap (λ x. refusal x c l t) (sym so_far.0) ∙ on.which in
    (after (fault_of a) refl so_far.0 ∙ ap (λ o. keep o (held h) (marked (held h) c)) (sym due), (so_far.1, due))
  where
    after : (o : Option Fault) → fault_of a ≡ o → slots was ≡ held h → slots is ≡ keep o (held h) (marked (held h) c)
    after None free marks = on.marks (on.which ∙ free) ∙ ap (λ x. marked x c) marks
    after (Some f) e marks = ap slots (on.same f (refused_by a f e)) ∙ marks
