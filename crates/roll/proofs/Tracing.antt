-- Along every run the state stands for the plain roll, and every answer is the plain roll's. Assumes nothing.
use Rattle.std.proofs.Common.{◌≡◌, ℕ, List, [], ◌∷◌, length, replicate, Some, None, Ok, Err, Result, sym, refl, ap, ◌∙◌, subst, MatchOption}
use Rattle.std.proofs.lemmas.List.{nil_from_length}
use Rattle.fault.specs.declared.Fault.{Fault}
use Rattle.folding.specs.Cells.{cells}
use Rattle.folding.specs.Tallies.{tally}
use Rattle.folding.specs.Texts.{AllBytes}
use Rattle.folding.proofs.Entries.{length_cells}
use Rattle.roll.specs.Calls as calls
use Rattle.roll.specs.Calls.{Answer, done, tallied, judged, named, after, Gives, Answers}
use Rattle.roll.specs.Histories.{keep, plain, Right}
use Rattle.roll.specs.Plain.{texts, marks}
use Rattle.roll.specs.Refusals.{Call, opening, filing, withdrawal, verdict, totals, culprit, refusal}
use Rattle.roll.specs.Runs.{Fed, begun, more, full, back, Called, opens, files, withdraws, judges, adds, blames, Event, event, Passed, handed, apart, Turned, Run, made, granted, opened, turned}
use Rattle.roll.specs.Stands.{State, slots, Stands, Holds}
use Rattle.roll.specs.Steps.{fault_of, heard, refusal_at, Does, Opens, AsMade}
use Rattle.roll.specs.declared.strip.Strip.{Strip}
use Rattle.roll.proofs.Granting.{refused_not_none}
use Rattle.roll.proofs.Standing.{stands_refusal}

-- the texts of the plain roll before each call are made of bytes
abbrev pub Texts : List Event → Type 0
Texts [] = Unit {0}
Texts (e ∷ h) = AllBytes (texts (plain h)) × Texts h

module _ {L : Type 0} (leg : List ℕ → L) (M : List ℕ → Type 0) where
  pub fed_holds : {s : Strip L} {w : List ℕ} → Fed leg M s w → Holds leg s w
  fed_holds (begun h) = h
  fed_holds (more {is = is} {w = w} bytes n fed feeds e) = subst (Holds leg is) (sym e) (feeds.holds w (fed_holds fed))
  fed_holds (full {w = w} bytes f fed feeds) = feeds.holds w (fed_holds fed)
  fed_holds (back {w = w} was is n e fed refusing again) = subst (λ s. Holds leg s w) (sym refusing.back ∙ again) (fed_holds fed)

  opens_does : {was is : State L} {n : ℕ} (r : Result (Unit {0}) Fault) → Opens leg was n r is → Does leg M was (opening n) (heard (λ _. done) r) is
  opens_does (Ok x) h = record { always = h.always; keeps = λ p stands free. (refl, h.keeps free) }
  opens_does (Err f) h = record { always = h.always; keeps = λ p stands free. absurd (refused_not_none _ f h.always.roll.which free) }

  -- a granted opening, whatever the roll and its cells held
  opening_keeps : {was is : State L} {n : ℕ} {a : Answer} → Called leg M was (opening n) a is → fault_of a ≡ None → (refusal_at was (opening n) ≡ None) × (a ≡ done) × Stands leg is (replicate n None)
  opening_keeps (opens (Ok x) h e) free = (h.always.roll.which, e, h.keeps h.always.roll.which)
  opening_keeps (opens (Err f) h e) free = absurd (refused_not_none _ f (ap fault_of e) free)

  -- whichever call it is
  pub called_does : {was is : State L} {c : Call} {a : Answer} → Called leg M was c a is → Does leg M was c a is
  called_does (opens {was = was} {is = is} {n = n} r h e) = subst (λ a. Does leg M was (opening n) a is) (sym e) (opens_does r h)
  called_does (files {was = was} {is = is} {n = n} {w = w} s r fed h e) =
      subst (λ a. Does leg M was (filing n w) a is) (sym e)
      (record { always = record { roll = record { which = h.always.roll.which; same = h.always.roll.same; marks = h.always.roll.marks }; tables = h.always.tables }; keeps = h.keeps w (fed_holds fed) })
  called_does (withdraws {was = was} {is = is} {n = n} r h e) = subst (λ a. Does leg M was (withdrawal n) a is) (sym e) h.does
  called_does (judges {s = s} r h e) = subst (λ a. Does leg M s verdict a s) (sym e) h
  called_does (adds {s = s} r h e) = subst (λ a. Does leg M s totals a s) (sym e) h
  called_does (blames {s = s} r h e) = subst (λ a. Does leg M s culprit a s) (sym e) h

  -- a refused call changes nothing, so what goes on from it is what there was
  pub turned_same : {s lent is : State L} {c : Call} {a : Answer} → Turned leg M s lent c a is → is ≡ s
  turned_same t =
      let always = (called_does t.called).always in
      let roll = t.roll ∙ always.roll.same t.fault t.refused ∙ t.on in
      let same = always.tables t.fault t.refused in
      let legs = passed_same t.legs same.0 in
      let tallies = passed_same t.tallies same.1 in
      (λ i. record { roll = roll i; legs = legs i; tallies = tallies i })
    where
      passed_same : {X : Type 0} {own lent left is : List X} → Passed own lent left is → left ≡ lent → is ≡ own
      passed_same (handed e k) same = k ∙ same ∙ e
      passed_same (apart k) same = k

  pub record Traced (s : State L) (h : List Event) : Type 0 where
    pub right : Right M h
    pub bytes : Texts h
    pub stands : Stands leg s (plain h)

  made_stands : (s : State L) → AsMade s.roll → s.legs ≡ [] → s.tallies ≡ [] → Stands leg s []
  made_stands s fresh legs tallies = record {
    held = fresh;
    bytes = tt;
    legs = legs ∙ sym (nil_from_length (cells leg []) (length_cells leg []));
    tallies = tallies ∙ sym (nil_from_length (cells tally []) (length_cells tally []));
  }

  -- a granted call
  step_granted : (s is : State L) (h : List Event) (c : Call) (a : Answer) (l t : ℕ) → Traced s h → refusal (marks (plain h)) c l t ≡ None → Gives M (plain h) c a → Stands leg is (after (plain h) c) → Traced is (record { call = c; legs = l; tallies = t; answer = a } ∷ h)
  step_granted s is h c a l t so_far free gives stands = record {
    right = (so_far.right, subst (λ o. MatchOption o (Gives M (plain h) c a) (λ f. a ≡ calls.refused f)) (sym free) gives);
    bytes = (so_far.stands.bytes, so_far.bytes);
    stands = subst (λ o. Stands leg is (keep o (plain h) (after (plain h) c))) (sym free) stands;
  }

  step_refused : (s : State L) (h : List Event) (c : Call) (a : Answer) (l t : ℕ) (f : Fault) → Traced s h → refusal (marks (plain h)) c l t ≡ Some f → a ≡ calls.refused f → Traced s (record { call = c; legs = l; tallies = t; answer = a } ∷ h)
  step_refused s h c a l t f so_far which says = record {
    right = (so_far.right, subst (λ o. MatchOption o (Gives M (plain h) c a) (λ f. a ≡ calls.refused f)) (sym which) says);
    bytes = (so_far.stands.bytes, so_far.bytes);
    stands = subst (λ o. Stands leg s (keep o (plain h) (after (plain h) c))) (sym which) so_far.stands;
  }

  pub traced : {s : State L} {h : List Event} → Run leg M s h → Traced s h
  traced (made {s = s} fresh legs tallies) = record { right = tt; bytes = tt; stands = made_stands s fresh legs tallies }
  traced (granted {s = s} {is = is} {h = h} {c = c} {a = a} run call free) =
      let so_far = traced run in
      let does = called_does call in
      let none = does.always.roll.which ∙ free in
      let kept = does.keeps (plain h) so_far.stands none in
      step_granted s is h c a _ _ so_far (sym (stands_refusal so_far.stands c) ∙ none) kept.0 kept.1
  traced (opened {s = s} {is = is} {h = h} {n = n} {a = a} lent run same call free) =
      let kept = opening_keeps call free in
      step_granted s is h (opening n) a _ _ (traced run) kept.0 kept.1 kept.2
  traced (turned {s = s} {is = is} {h = h} {c = c} {a = a} lent run t) =
      let so_far = traced run in
      let which = (called_does t.called).always.roll.which ∙ ap fault_of t.refused in
      step_refused is h c a _ _ t.fault (subst (λ x. Traced x h) (sym (turned_same t)) so_far)
      (ap (λ x. refusal x c (length lent.legs) (length lent.tallies)) (sym (ap slots t.on ∙ so_far.stands.held)) ∙ which) t.refused

  -- a call that is lent the roll's own cells goes on with the run, granted or refused
  pub goes_on : {s is : State L} {h : List Event} {c : Call} {a : Answer} → Run leg M s h → Called leg M s c a is → Run leg M is (event s c a ∷ h)
  goes_on {a = done} run call = granted run call refl
  goes_on {a = tallied t} run call = granted run call refl
  goes_on {a = judged b} run call = granted run call refl
  goes_on {a = named c} run call = granted run call refl
  goes_on {s} {is} {a = calls.refused f} run call =
      turned s run (record { on = refl; left = is; called = call; fault = f; refused = refl; roll = refl; legs = handed refl refl; tallies = handed refl refl })
