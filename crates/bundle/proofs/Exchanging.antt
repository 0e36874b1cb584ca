-- A report under one set of texts is a report under another with the same texts. Assumes nothing.
use Rattle.std.proofs.Common.{◌≡◌, ℕ, zero, suc, List, [], ◌∷◌, set, replicate, Some, None, Ok, Err, Option, Result, unwrap_or, sym, refl, subst, arith}
use Rattle.std.proofs.ByRecursion.{All-set}
use Rattle.std.proofs.lemmas.List.{map-set}
use Rattle.std.proofs.lemmas.Bool.Decides.{Decides-like}
use Rattle.std.specs.List.{AllByRecursion}
use Rattle.fault.specs.declared.Fault.{Fault}
use Rattle.folding.specs.Texts.{Bytes, AllBytes, together}
use Rattle.folding.proofs.Texts.{bytes_together}
use Rattle.roll.specs.Law.{Same}
use Rattle.roll.specs.Plain.{Plain, texts, marks}
use Rattle.roll.specs.Refusals.{filing, refusal}
use Rattle.roll.proofs.Exchanging.{first_same}
use Rattle.bundle.specs.Layout.{Piece, OfBytes}
use Rattle.bundle.specs.Outcome.{unless, filed, opened, Reports, Reported}
use Rattle.bundle.specs.declared.report.Report.{Report}

-- the texts that are filed are made of bytes
ok_same : (x y : Plain) → ◌≡◌ {A = Result Plain Fault} (Ok x) (Ok y) → x ≡ y
ok_same x y e = cc

ok≢err : (x : Plain) (f : Fault) → Err f ≡ Ok x → ⊥
ok≢err x f e = let z : ◌≡◌ {A = ℕ} 0 1 = cc in omega arith

unless_ok : (o : Option Fault) (r : Result Plain Fault) (q : Plain) → unless o r ≡ Ok q → r ≡ Ok q
unless_ok None r q e = e
unless_ok (Some f) r q e = absurd (ok≢err q f e)

pub filed_bytes : (p : Plain) (ss : List Piece) → AllByRecursion OfBytes ss → AllBytes (texts p) → (q : Plain) → filed p ss ≡ Ok q → AllBytes (texts q)
filed_bytes p [] of bytes q e = subst (λ x. AllBytes (texts x)) (ok_same p q e) bytes
filed_bytes p (s ∷ ss) of bytes q e =
    let more = subst AllBytes (sym (map-set (λ o. unwrap_or o []) p s.slot (Some s.text))) (All-set Bytes (texts p) s.slot s.text of.0.1 bytes) in
    filed_bytes (set p s.slot (Some s.text)) ss of.1 more q (unless_ok (refusal (marks p) (filing s.slot s.text) 256 256) _ q e)

opened_bytes : (n : ℕ) → AllBytes (texts (replicate n None))
opened_bytes zero = tt
opened_bytes (suc n) = (tt, opened_bytes n)

module _ (M M' : List ℕ → Type 0) (same : Same M M') where
  reports_same : (p : Plain) (r : Report) → AllBytes (texts p) → Reports M p r → Reports M' p r
  reports_same p r bytes report =
      let sets = same (together (texts p)) (bytes_together (texts p) bytes) in
      record {
        verdict = Decides-like r.verdict sets.0 sets.1 report.verdict;
        totals = report.totals;
        culprit = first_same M M' same (texts p) bytes r.culprit report.culprit;
      }

  reported_by : (o : Result Plain Fault) (r : Result Report Fault) → ((q : Plain) → o ≡ Ok q → AllBytes (texts q)) → Reported M o r → Reported M' o r
  reported_by (Ok p) (Ok r) bytes report = reports_same p r (bytes p refl) report
  reported_by (Ok p) (Err f) bytes report = report
  reported_by (Err f) r bytes report = report

  pub reported_same : (ss : List Piece) (r : Result Report Fault) → AllByRecursion OfBytes ss → Reported M (filed opened ss) r → Reported M' (filed opened ss) r
  reported_same ss r of report = reported_by (filed opened ss) r (filed_bytes opened ss of (opened_bytes 128)) report
