-- What a report answers is what the law of rolls says of the run of its calls. Assumes that law.
use Rattle.std.proofs.Common.{◌≡◌, ℕ, Bool, List, [], ◌∷◌, ◌++◌, length, Some, None, Ok, Err, Decides, Option, Result, sym, refl, ap, ◌∙◌, subst, arith, MatchOption}
use Rattle.fault.specs.declared.Fault.{Fault}
use Rattle.folding.specs.Losing.{FirstLost}
use Rattle.folding.specs.Tallies.{tally}
use Rattle.folding.specs.declared.tally.Tally.{Tally}
use Rattle.roll.specs.Calls.{Answer, done, tallied, judged, named, refused, after, Gives, Answers}
use Rattle.roll.specs.Histories.{keep, plain, Right}
use Rattle.roll.specs.Law.{Law}
use Rattle.roll.specs.Plain.{Plain, texts, whole, marks}
use Rattle.roll.specs.Refusals.{Call, opening, verdict, totals, culprit, refusal}
use Rattle.roll.specs.Runs.{Event}
use Rattle.roll.specs.Steps.{fault_of}
use Rattle.roll.proofs.Granting.{not_refused, tables_none}
use Rattle.roll.proofs.Lawful.{given}
use Rattle.bundle.specs.History.{entry, filing_of, opening_of, filings, questions, Ran, answered, unopened, unfiled}
use Rattle.bundle.specs.Layout.{Piece}
use Rattle.bundle.specs.Outcome.{opened, unless, filed, begun, Reports, Reported}
use Rattle.bundle.specs.declared.report.Report.{Report}

ok_same : {X : Type 0} (x y : X) → ◌≡◌ {A = Result X Fault} (Ok x) (Ok y) → x ≡ y
ok_same x y e = cc

refused≢done : (f : Fault) → refused f ≡ done → ⊥
refused≢done f e = let z : ◌≡◌ {A = ℕ} 0 1 = cc in omega arith

refused≢tallied : (f : Fault) (s : Piece) → refused f ≡ tallied (tally s.text) → ⊥
refused≢tallied f s e = let z : ◌≡◌ {A = ℕ} 0 1 = cc in omega arith

-- a question leaves the plain roll as it was
keep_same : (o : Option Fault) (p : Plain) → keep o p p ≡ p
keep_same None p = refl
keep_same (Some f) p = refl

module _ (M : List ℕ → Type 0) where
  -- a call that was answered was granted
  granted : (p : Plain) (c : Call) (l t : ℕ) (a : Answer) → fault_of a ≡ None → Answers M p c l t a → refusal (marks p) c l t ≡ None
  granted p c l t a free says = go (refusal (marks p) c l t) says
    where
      go : (o : Option Fault) → MatchOption o (Gives M p c a) (λ f. a ≡ refused f) → o ≡ None
      go None says = refl
      go (Some f) says = absurd (not_refused a f free says)

  -- and one that was refused had this fault
  blamed : (p : Plain) (c : Call) (l t : ℕ) (f : Fault) → (Gives M p c (refused f) → ⊥) → Answers M p c l t (refused f) → refusal (marks p) c l t ≡ Some f
  blamed p c l t f never says = go (refusal (marks p) c l t) says
    where
      same : (x y : Fault) → refused x ≡ refused y → x ≡ y
      same x y e = cc

      go : (o : Option Fault) → MatchOption o (Gives M p c (refused f)) (λ g. refused f ≡ refused g) → o ≡ Some f
      go None says = absurd (never says)
      go (Some g) says = ap Some (sym (same f g says))

  right_rest : (l t : ℕ) (ss : List Piece) (h : List Event) → Right M (filings l t ss h) → Right M h
  right_rest l t [] h right = right
  right_rest l t (s ∷ ss) h right = (right_rest l t ss _ right).0

  -- the strips of a history are filed as the plain roll files them
  right_filed : (ss : List Piece) (h : List Event) → Right M (filings 256 256 ss h) → filed (plain h) ss ≡ Ok (plain (filings 256 256 ss h))
  right_filed [] h right = refl
  right_filed (s ∷ ss) h right =
      let now : List Event = entry 256 256 (filing_of s) (tallied (tally s.text)) ∷ h in
      let free = granted (plain h) (filing_of s) 256 256 _ refl (right_rest 256 256 ss now right).1 in
      ap (λ o. unless o (filed (after (plain h) (filing_of s)) ss)) free
      ∙ ap (λ o. filed (keep o (plain h) (after (plain h) (filing_of s))) ss) (sym free)
      ∙ right_filed ss now right

  filed_append : (p q : Plain) (ss ts : List Piece) → filed p ss ≡ Ok q → filed p (ss ++ ts) ≡ filed q ts
  filed_append p q [] ts e = ap (λ x. filed x ts) (ok_same p q e)
  filed_append p q (s ∷ ss) ts e = go (refusal (marks p) (filing_of s) 256 256) (filed_append (after p (filing_of s)) q ss ts) e
    where
      go : (o : Option Fault) → (filed (after p (filing_of s)) ss ≡ Ok q → filed (after p (filing_of s)) (ss ++ ts) ≡ filed q ts) → unless o (filed (after p (filing_of s)) ss) ≡ Ok q → unless o (filed (after p (filing_of s)) (ss ++ ts)) ≡ filed q ts
      go None rest e = rest e
      go (Some f) rest e = absurd (let z : ◌≡◌ {A = ℕ} 0 1 = cc in omega arith)

  -- the opening was granted, so the tables are those of 128 slots
  module _ (l t : ℕ) (right : Right M (opening_of l t done)) where
    open_free : refusal [] (opening 128) l t ≡ None
    open_free = granted [] (opening 128) l t done refl right.1

    wide : (l ≡ 256) × (t ≡ 256)
    wide = tables_none 128 l t open_free

    begun_filed : (ss : List Piece) → begun l t ss ≡ filed opened ss
    begun_filed ss = ap (λ o. unless o (filed opened ss)) open_free

  whole_filed : (l t : ℕ) (ss : List Piece) → Right M (filings l t ss (opening_of l t done)) → filed opened ss ≡ Ok (plain (filings l t ss (opening_of l t done)))
  whole_filed l t ss right =
      let w = wide l t (right_rest l t ss _ right) in
      right_filed ss (opening_of 256 256 done) (subst (λ x. x) (λ i. Right M (filings (w.0 i) (w.1 i) ss (opening_of (w.0 i) (w.1 i) done))) right)
      ∙ sym (λ i. Ok (plain (filings (w.0 i) (w.1 i) ss (opening_of (w.0 i) (w.1 i) done))))

  reports : (l t : ℕ) (r : Report) (h : List Event) → Right M (questions l t r h) → Reports M (plain h) r
  reports l t r h right =
      let one : plain (entry l t verdict (judged r.verdict) ∷ h) ≡ plain h = keep_same (refusal (marks (plain h)) verdict l t) (plain h) in
      let two : plain (entry l t totals (tallied r.totals) ∷ (entry l t verdict (judged r.verdict) ∷ h)) ≡ plain h = keep_same (refusal (marks (plain (entry l t verdict (judged r.verdict) ∷ h))) totals l t) _ ∙ one in
      let judging = given M (plain h) verdict l t _ refl right.0.0.1 in
      let adding = given M _ totals l t _ refl right.0.1 in
      let blaming = given M _ culprit l t _ refl right.1 in
      record {
        verdict = subst (λ b. Decides b (M (whole (plain h)))) (sym (judged_same _ _ judging.1)) judging.2;
        totals = tallied_same _ _ adding ∙ ap (λ p. tally (whole p)) one;
        culprit = subst (λ p. FirstLost M (texts p) r.culprit) two (subst (FirstLost M _) (sym (named_same _ _ blaming.1)) blaming.2);
      }
    where
      judged_same : (x y : Bool) → judged x ≡ judged y → x ≡ y
      judged_same x y e = cc

      tallied_same : (x y : Tally) → tallied x ≡ tallied y → x ≡ y
      tallied_same x y e = cc

      named_same : (x y : Option ℕ) → named x ≡ named y → x ≡ y
      named_same x y e = cc

  pub ran_reported : {L : Type 0} (leg : List ℕ → L) (law : Law leg M leg M) (legs : List L) (tallies : List Tally) (ss : List Piece) (legs' : List L) (tallies' : List Tally) (r : Result Report Fault) → Ran leg M legs tallies ss legs' tallies' r → Reported M (begun (length legs) (length tallies) ss) r
  ran_reported leg law legs tallies ss legs' tallies' (Ok r) (answered roll run) =
      let l : ℕ = length legs in
      let t : ℕ = length tallies in
      let right = law.answers _ _ run in
      let rest = right.0.0.0 in
      subst (λ o. Reported M o (Ok r)) (sym (begun_filed l t (right_rest l t ss _ rest) ss ∙ whole_filed l t ss rest)) (reports l t r _ right)
  ran_reported leg law legs tallies ss legs' tallies' (Err f) (unopened roll run own_legs own_tallies) =
      let which = blamed [] (opening 128) (length legs) (length tallies) f (refused≢done f) (law.answers _ _ run).1 in
      subst (λ o. Reported M o (Err f)) (sym (ap (λ o. unless o (filed opened ss)) which)) refl
  ran_reported leg law legs tallies ss legs' tallies' (Err f) (unfiled roll at run) =
      let l : ℕ = length legs in
      let t : ℕ = length tallies in
      let right = law.answers _ _ run in
      let before = right_rest l t at.before _ right.0 in
      let w = wide l t before in
      let q = plain (filings l t at.before (opening_of l t done)) in
      let which = blamed q (filing_of at.refused) l t f (refused≢tallied f at.refused) right.1 in
      let here = (λ i. refusal (marks q) (filing_of at.refused) (sym w.0 i) (sym w.1 i)) ∙ which in
      subst (λ o. Reported M o (Err f))
      (sym (begun_filed l t before ss ∙ ap (filed opened) at.are ∙ filed_append opened q at.before (at.refused ∷ at.rest) (whole_filed l t at.before right.0)
      ∙ ap (λ o. unless o (filed (after q (filing_of at.refused)) at.rest)) here))
      refl
