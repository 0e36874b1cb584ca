-- The calls that a report makes, from the roll as made on, put together as one run. Assumes the law of rolls.
use Rattle.std.proofs.Common.{◌≡◌, ℕ, Bool, List, [], length, Ok, Err, Option, Result, sym, refl, ap, ◌∙◌, subst}
use Rattle.fault.specs.declared.Fault.{Fault}
use Rattle.folding.specs.declared.tally.Tally.{Tally}
use Rattle.roll.specs.Calls.{done, tallied, judged, named, refused}
use Rattle.roll.specs.Law.{Law}
use Rattle.roll.specs.Refusals.{verdict, totals, culprit}
use Rattle.roll.specs.Runs.{opens, judges, adds, blames, apart, Run, opened, turned}
use Rattle.roll.specs.Stands.{State, state}
use Rattle.roll.specs.Steps.{Does, Opens}
use Rattle.roll.specs.declared.roll.Roll.{Roll}
use Rattle.roll.proofs.Granting.{refused_not_none}
use Rattle.roll.proofs.Standing.{stands_tables}
use Rattle.roll.proofs.Tracing.{goes_on}
use Rattle.bundle.specs.History.{opening_of, filings, questions, Filings, FiledAll, Ran, answered, unopened, unfiled}
use Rattle.bundle.specs.Layout.{Piece}
use Rattle.bundle.specs.declared.report.Report.{Report}

module _ {L : Type 0} (leg : List ℕ → L) (M : List ℕ → Type 0) (new : Roll) (legs : List L) (tallies : List Tally) (ss : List Piece) (begins : Run leg M (state new [] []) []) where
  pub not_opened : (left : State L) (f : Fault) (r : Result Report Fault) (f' : Fault) → r ≡ Err f' → f' ≡ f → Opens leg (state new legs tallies) 128 (Err f) left → Ran leg M legs tallies ss left.legs left.tallies r
  not_opened left f r f' is_err same opening =
      let kept = opening.always.tables f refl in
      subst (Ran leg M legs tallies ss left.legs left.tallies) (sym (is_err ∙ ap Err same))
      (unopened left.roll
      (turned (state new legs tallies) begins
      (record { on = refl; left = left; called = opens (Err f) opening refl; fault = f; refused = refl; roll = refl; legs = apart refl; tallies = apart refl }))
      kept.0 kept.1)

  module _ (ready : State L) (opening : Opens leg (state new legs tallies) 128 (Ok tt) ready) (legs_kept : length ready.legs ≡ length legs) (tallies_kept : length ready.tallies ≡ length tallies) where
    filed_run : (x : Result (Unit {0}) Fault) (s : State L) → FiledAll leg M ready ss x s → Filings leg M (length legs) (length tallies) ss (opening_of (length legs) (length tallies) done) x s
    filed_run x s ran =
        subst (λ y. y) (λ i. Filings leg M (legs_kept i) (tallies_kept i) ss (opening_of (length legs) (length tallies) done) x s)
        (ran _ (opened (state new legs tallies) begins refl (opens (Ok tt) opening refl) refl))

    pub not_filed : (s : State L) (f : Fault) (r : Result Report Fault) (f' : Fault) → r ≡ Err f' → f' ≡ f → FiledAll leg M ready ss (Err f) s → Ran leg M legs tallies ss s.legs s.tallies r
    not_filed s f r f' is_err same ran =
        let stop = filed_run (Err f) s ran in
        subst (Ran leg M legs tallies ss s.legs s.tallies) (sym (is_err ∙ ap Err same)) (unfiled s.roll stop.0 stop.1)

    module _ (s : State L) (ran : FiledAll leg M ready ss (Ok tt) s) where
      -- the cells are the roll's own, so no question is refused
      pub not_refused : (law : Law leg M leg M) (f : Fault) → Does leg M s verdict (refused f) s → ⊥
      not_refused law f does = refused_not_none _ f does.always.roll.which (stands_tables (law.stands s _ (filed_run (Ok tt) s ran)))

      pub all_answered : length s.legs ≡ length ready.legs → length s.tallies ≡ length ready.tallies → (b : Bool) (t : Tally) (c : Option ℕ) → Does leg M s verdict (judged b) s → Does leg M s totals (tallied t) s → Does leg M s culprit (named c) s → Ran leg M legs tallies ss s.legs s.tallies (Ok (record { verdict = b; totals = t; culprit = c }))
      all_answered more-legs more-tallies b t c judging adding blaming =
          let l = more-legs ∙ legs_kept in
          let k = more-tallies ∙ tallies_kept in
          answered s.roll
          (subst (λ y. y) (λ i. Run leg M s (questions (l i) (k i) (record { verdict = b; totals = t; culprit = c }) (filings (length legs) (length tallies) ss (opening_of (length legs) (length tallies) done))))
          (goes_on leg M (goes_on leg M (goes_on leg M (filed_run (Ok tt) s ran) (judges (Ok b) judging refl)) (adds (Ok t) adding refl)) (blames (Ok c) blaming refl)))
