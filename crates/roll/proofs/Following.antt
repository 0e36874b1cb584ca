-- Two plain rolls with the same texts answer alike, under sets that have the same texts. Assumes nothing.
use Rattle.std.proofs.Common.{◌≡◌, ℕ, List, [], ◌∷◌, ◌++◌, map, Some, None, Option, sym, refl, ap, ◌∙◌, subst, arith, MatchOption}
use Rattle.std.proofs.lemmas.Bool.Decides.{same_from_decides, Decides-like}
use Rattle.fault.specs.declared.Fault.{Fault}
use Rattle.folding.specs.Texts.{AllBytes}
use Rattle.folding.proofs.Texts.{bytes_together}
use Rattle.roll.specs.Calls.{Answer, judged, named, refused, after, Gives, Answers}
use Rattle.roll.specs.Histories.{keep, plain, Right, asked}
use Rattle.roll.specs.Law.{Same}
use Rattle.roll.specs.Plain.{Plain, texts, whole, marks}
use Rattle.roll.specs.Refusals.{Call, opening, filing, withdrawal, verdict, totals, culprit, refusal}
use Rattle.roll.specs.Runs.{Event}
use Rattle.roll.proofs.Exchanging.{first_same, first_one}
use Rattle.roll.proofs.Tracing.{Texts}

module _ (M M' : List ℕ → Type 0) (same : Same M M') where
  gives_same : (p : Plain) → AllBytes (texts p) → (c : Call) (a a' : Answer) → Gives M p c a → Gives M' p c a' → a ≡ a'
  gives_same p bytes (opening n) a a' e e' = e ∙ sym e'
  gives_same p bytes (filing s w) a a' e e' = e ∙ sym e'
  gives_same p bytes (withdrawal s) a a' e e' = e ∙ sym e'
  gives_same p bytes verdict a a' (b, e, is) (b', e', is') =
      let sets = same (whole p) (bytes_together (texts p) bytes) in
      e ∙ ap judged (same_from_decides b b' is (Decides-like b' sets.1 sets.0 is')) ∙ sym e'
  gives_same p bytes totals a a' e e' = e ∙ sym e'
  gives_same p bytes culprit a a' (c, e, first) (c', e', first') = e ∙ ap named (first_one M' (texts p) c c' (first_same M M' same (texts p) bytes c first) first') ∙ sym e'

  answers_same : (p : Plain) → AllBytes (texts p) → (c : Call) (l t : ℕ) (a a' : Answer) → Answers M p c l t a → Answers M' p c l t a' → a ≡ a'
  answers_same p bytes c l t a a' = go (refusal (marks p) c l t)
    where
      go : (o : Option Fault) → MatchOption o (Gives M p c a) (λ f. a ≡ refused f) → MatchOption o (Gives M' p c a') (λ f. a' ≡ refused f) → a ≡ a'
      go None gives gives' = gives_same p bytes c a a' gives gives'
      go (Some f) e e' = e ∙ sym e'

  pub following : (g g' h h' : List Event) → Right M (g ++ h) → Right M' (g' ++ h') → Texts (g ++ h) → plain h ≡ plain h' → map asked g ≡ map asked g' → (g ≡ g') × (plain (g ++ h) ≡ plain (g' ++ h'))
  following [] [] h h' right right' bytes left asks = (refl, left)
  following [] (e' ∷ g') h h' right right' bytes left asks = absurd (let z : ◌≡◌ {A = ℕ} 0 1 = cc in omega arith)
  following (e ∷ g) [] h h' right right' bytes left asks = absurd (let z : ◌≡◌ {A = ℕ} 0 1 = cc in omega arith)
  following (e ∷ g) (e' ∷ g') h h' right right' bytes left asks =
      let head : asked e ≡ asked e' = cc in
      let tail : map asked g ≡ map asked g' = cc in
      let so_far = following g g' h h' right.0 right'.0 bytes.1 left tail in
      let call = ap (λ x. x.0) head in
      let legs = ap (λ x. x.1.0) head in
      let tallies = ap (λ x. x.1.1) head in
      let here = sym (λ i. Answers M' (so_far.1 i) (call i) (legs i) (tallies i) e'.answer) in
      let answer = answers_same (plain (g ++ h)) bytes.0 e.call e.legs e.tallies e.answer e'.answer right.1 (subst (λ x. x) here right'.1) in (
        (λ i. record { call = call i; legs = legs i; tallies = tallies i; answer = answer i } ∷ so_far.0 i),
        (λ i. keep (refusal (marks (so_far.1 i)) (call i) (legs i) (tallies i)) (so_far.1 i) (after (so_far.1 i) (call i))),
      )
