-- What the reader's answer at the outermost level says of the whole pattern. Assumes nothing.
use Rattle.std.proofs.Common.{◌≡◌, ℕ, ◌-◌, ◌<◌, ◌≤◌, min, List, [], length, get_or, Result, Ok, Err, MatchResult, IsOk, sym, refl, ap, ◌∙◌, subst, inl, inr, arith, w8, Fits}
use Rattle.std.proofs.ByRecursion.{All-from_get_or}
use Rattle.std.proofs.lemmas.List.{drop_all}
use Rattle.fault.specs.declared.Fault.{Fault}
use Rattle.fault.specs.declared.Refusal.TheVariants.{BadlyWritten, TooManyPlaces}
use Rattle.notation.specs.Characters.{kind}
use Rattle.notation.specs.Places.{places}
use Rattle.notation.specs.Expressions.{Regex, empty}
use Rattle.notation.specs.Grammar.{Written, lone, nothing}
use Rattle.notation.specs.Beginnings.{LongestBeginning}
use Rattle.notation.specs.Automaton.{closed, begin, outcome_of, start}
use Rattle.notation.specs.Refusals.{Stops, refused}
use Rattle.notation.specs.Reading.{Granted, Readable, Bad, Unwritten, Refused, Assembled}
use Rattle.pattern.specs.Walks.{AlternativesRead, AlternativesStop}
use Rattle.notation.proofs.Runs.{outcome_end}
use Rattle.pattern.proofs.Slices.{stops_inside, stopped}
use Rattle.notation.proofs.Sounds.{Bytes, sound}
use Rattle.notation.proofs.Completes.{one_reading}
use Rattle.notation.proofs.Faults.{longest, not_written}

bytes_slice : (p : List ℕ) → ((i : ℕ) → Fits w8 (get_or p i 0)) → Bytes p
bytes_slice p fits = All-from_get_or (λ b. b < 256) p 0 (λ i _. (fits i).fits)

module _ (p : List ℕ) (fits : (i : ℕ) → Fits w8 (get_or p i 0)) (short : length p ≤ 256) where
  bytes : Bytes p
  bytes = bytes_slice p fits

  stopped_bad : (f : Fault) → Stops p f (outcome_of start p) → Bad p f
  stopped_bad f stop =
      let within = stop.within in
      let place : length p - (length p - f.place) ≡ f.place = omega arith in
      (short, not_written p _ stop.unread, subst (LongestBeginning p) place (longest p _ bytes stop.unread), stop.is)

  pub reader_stops : (f : Fault) → AlternativesStop p 0 16 f → Unwritten p f
  reader_stops f stop = inr (stopped_bad f (stop []))

  pub left_over : (end : ℕ) (E : Regex → Type 0) (f : Fault) → AlternativesRead p 0 16 end E → end < length p → f ≡ refused BadlyWritten end → Unwritten p f
  left_over end E f read lt is =
      inr (stopped_bad f (stopped p f end _ is read.within (read.runs [] ∙ stops_inside p end _ lt (ap (λ b. begin (kind b) b read.frame 16 []) (read.halts lt)))))

  pub assembled : {T : Type 0} (S : T → Regex → Type 0) (part : T) (end : ℕ) → AlternativesRead p 0 16 end (S part) → length p ≤ end → Assembled S p part
  assembled S part end read ge =
      let e = closed read.frame in
      let written : Written 16 p e = sound p _ bytes (read.runs [] ∙ ap (outcome_of _) (drop_all end p ge) ∙ outcome_end _) in
      record { expression = e; short = short; written = written; stands = λ f is. subst (S part) (one_reading p e f written is) read.value }

pub empty_readable : (w : List ℕ) → w ≡ [] → Readable w
empty_readable w is = subst Readable (sym is) (empty, record { short = omega arith; written = lone nothing; few = omega arith })

-- the refusals that come before the places are counted
pub refused_unwritten : (p : List ℕ) (f : Fault) → Unwritten p f → Refused p f
refused_unwritten p f (inl long) = inl long
refused_unwritten p f (inr bad') = inr (inl bad')

module _ (p : List ℕ) (n : ℕ) (whole : Assembled (λ k e. k ≡ min (places e) 64) p n) where
  counted : n ≡ min (places whole.expression) 64
  counted = whole.stands whole.expression whole.written

  pub crowded : (f : Fault) → 63 < n → f ≡ refused TooManyPlaces 0 → Refused p f
  crowded f many is = inr (inr (whole.short, whole.expression, whole.written, omega (arith, counted), is))

  pub granted : n ≤ 63 → Granted p n
  granted few = (whole.expression, record { short = whole.short; written = whole.written; few = omega (arith, counted) }, omega (arith, counted))

-- what is refused is not readable
pub not_both : (p : List ℕ) (f : Fault) → Refused p f → Readable p → ⊥
not_both p f (inl (long, _)) (e, read) = omega (arith, read.short)
not_both p f (inr (inl (_, not-well, _, _))) (e, read) = not-well (e, read.written)
not_both p f (inr (inr (_, d, is, many, _))) (e, read) = omega (arith, read.few, ap places (one_reading p d e is read.written))

-- what a record holds is not refused
pub readable_ok : {T : Type 0} (r : Result T Fault) (P : T → Type 0) (w p : List ℕ) → MatchResult r P (Unwritten w) → Readable p → w ≡ p → IsOk r
readable_ok (Ok x) P w p told readable is = refl
readable_ok (Err f) P w p stop readable is = absurd (not_both p f (refused_unwritten p f (subst (λ q. Unwritten q f) is stop)) readable)
