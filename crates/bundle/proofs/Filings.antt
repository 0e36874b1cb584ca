-- The calls of a report, as they come, are a run. Assumes nothing.
use Rattle.std.proofs.Common.{◌≡◌, ℕ, List, [], ◌∷◌, ◌++◌, length, Ok, Err, Result, sym, refl, ap, ◌∙◌, subst, append_assoc, append-nil}
use Rattle.fault.specs.declared.Fault.{Fault}
use Rattle.folding.specs.Tallies.{tally}
use Rattle.folding.specs.declared.tally.Tally.{Tally}
use Rattle.roll.specs.Calls.{tallied, refused}
use Rattle.roll.specs.Runs.{Fed, begun, more, files, Event, Run}
use Rattle.roll.specs.Stands.{State}
use Rattle.roll.specs.Steps.{FedAtOnce, Files}
use Rattle.roll.specs.declared.strip.Returned.{Returned}
use Rattle.roll.specs.declared.strip.Strip.{Strip}
use Rattle.roll.proofs.Tracing.{fed_holds, goes_on}
use Rattle.bundle.specs.History.{entry, filing_of, filed_as, filings, Filings, FiledOne}
use Rattle.bundle.specs.Layout.{Piece}

filings_more : (l t : ℕ) (ss : List Piece) (s : Piece) (h : List Event) → filings l t (ss ++ (s ∷ [])) h ≡ entry l t (filing_of s) (tallied (tally s.text)) ∷ filings l t ss h
filings_more l t [] s h = refl
filings_more l t (x ∷ ss) s h = filings_more l t ss s _

module _ {L : Type 0} (leg : List ℕ → L) (M : List ℕ → Type 0) where
  -- one strip that was begun, fed and filed
  module _ (was is : State L) (s : Piece) (n : ℕ) {strip : Strip L} (slot : n ≡ s.slot) (at_once : FedAtOnce leg s.text strip) where
    fed : Fed leg M strip s.text
    fed = more s.text (length s.text) (begun at_once.1) at_once.2 refl

    -- n is how the slot was passed on
    at_slot : (r : Result Tally (Returned L)) → Files leg M was n strip r is → Files leg M was s.slot strip r is
    at_slot r filed = subst (λ k. Files leg M was k strip r is) slot filed

    pub one_filed : (t : Tally) → Files leg M was n strip (Ok t) is → FiledOne leg M was s (Ok tt) is
    one_filed t filed h run =
        let own : t ≡ tally s.text = ok_same t _ (filed.answer filed.always.roll.which) ∙ (fed_holds leg M fed).counted.tallies in
        goes_on leg M run (files strip (Ok t) fed (at_slot (Ok t) filed) (ap tallied (sym own)))
      where
        ok_same : (x y : Tally) → ◌≡◌ {A = Result Tally (Returned L)} (Ok x) (Ok y) → x ≡ y
        ok_same x y e = cc

    pub one_refused : (e : Returned L) (r : Result (Unit {0}) Fault) (f : Fault) → r ≡ Err f → f ≡ e.fault → Files leg M was n strip (Err e) is → FiledOne leg M was s r is
    one_refused e r f is_err same filed h run = goes_on leg M run (files strip (Err e) fed (at_slot (Err e) filed) (ap (filed_as s) is_err ∙ ap refused same))

  -- some of the strips are filed, and the others are to come
  pub record Along (was : State L) (ss : List Piece) (is : State L) (ts : List Piece) (h : List Event) : Type 0 where
    pub done : List Piece
    pub are : ss ≡ done ++ ts
    pub run : Run leg M is (filings (length was.legs) (length was.tallies) done h)

  pub along_none : (was : State L) (ss ts : List Piece) (h : List Event) → ts ≡ ss → Run leg M was h → Along was ss was ts h
  along_none was ss ts h same run = record { done = []; are = sym same; run = run }

  pub along_all : (was is : State L) (ss ts : List Piece) (h : List Event) → ts ≡ [] → Along was ss is ts h → Run leg M is (filings (length was.legs) (length was.tallies) ss h)
  along_all was is ss ts h end so_far =
      let all : ss ≡ so_far.done = so_far.are ∙ ap (λ x. so_far.done ++ x) end ∙ append-nil so_far.done in
      subst (λ x. Run leg M is (filings (length was.legs) (length was.tallies) x h)) (sym all) so_far.run

  module _ (was is now : State L) (ss ts us : List Piece) (s : Piece) (h : List Event) (legs : length is.legs ≡ length was.legs) (tallies : length is.tallies ≡ length was.tallies) (next : us ≡ s ∷ ts) (so_far : Along was ss is us h) where
    -- the call, lent tables of the lengths that the first was lent
    went : (r : Result (Unit {0}) Fault) → FiledOne leg M is s r now → Run leg M now (entry (length was.legs) (length was.tallies) (filing_of s) (filed_as s r) ∷ filings (length was.legs) (length was.tallies) so_far.done h)
    went r goes =
        subst (Run leg M now)
        (λ i. entry (legs i) (tallies i) (filing_of s) (filed_as s r) ∷ filings (length was.legs) (length was.tallies) so_far.done h)
        (goes _ so_far.run)

    pub along_more : FiledOne leg M is s (Ok tt) now → Along was ss now ts h
    along_more goes = record {
      done = so_far.done ++ (s ∷ []);
      are = so_far.are ∙ ap (λ x. so_far.done ++ x) next ∙ sym (append_assoc so_far.done (s ∷ []) ts);
      run = subst (Run leg M now) (sym (filings_more (length was.legs) (length was.tallies) so_far.done s h)) (went (Ok tt) goes);
    }

    pub along_stop : (f : Fault) (r : Result (Unit {0}) Fault) (f' : Fault) → r ≡ Err f' → f' ≡ f → FiledOne leg M is s (Err f) now → Filings leg M (length was.legs) (length was.tallies) ss h r now
    along_stop f r f' is_err same goes =
        subst (λ x. Filings leg M (length was.legs) (length was.tallies) ss h x now) (sym (is_err ∙ ap Err same))
        (record { before = so_far.done; refused = s; rest = ts; are = so_far.are ∙ ap (λ x. so_far.done ++ x) next }, went (Err f) goes)
