-- Two texts lead to one mask exactly if they lead to the same states. Assumes nothing.
use Rattle.std.specs.Prelude.{◌↔◌}
use Rattle.std.proofs.Common.{◌≡◌, ℕ, List, [], ◌∷◌, refl, sym, subst, ◌∙◌, arith}
use Rattle.folding.specs.Texts.{Bytes}
use Rattle.notation.specs.Expressions.{Regex}
use Rattle.numbering.proofs.Counting.{unlike_by}
use Rattle.numbering.specs.Reaching.{after}
use Rattle.relations.proofs.Bits.{same_masks}
use Rattle.relations.specs.Masks.{Has}
use Rattle.machines.specs.declared.place.tables.Tables.{Tables}
use Rattle.machines.specs.Place.Runs.{stepped, run, Reaches}
use Rattle.machines.specs.Place.Shown.Machine.{is_leg}
use Rattle.machines.specs.Place.Shown.Running.{leg_row}
use Rattle.machines.specs.Place.Tables.{TablesOf}
use Rattle.machines.specs.Reached.{SameSet, MoreSets}
use Rattle.machines.specs.Set.Building.{MoreMasks}
use Rattle.machines.specs.Set.Tables.{initial}
use Rattle.machines.specs.Soundness.{Sane}

pub after_run : (t : Tables) (w : List ℕ) (set : ℕ) → after (stepped t) set w ≡ run t w set
unfolding after run
after_run t [] set = refl
after_run t (c ∷ w) set = after_run t w (stepped t set c)

module _ (e : Regex) (sane : Sane e) (t : Tables) (of : TablesOf e t) where
  run_reaches : (w : List ℕ) (p : ℕ) → Bytes w → Has (run t w initial) p ↔ Reaches e w 0 p
  run_reaches w p bytes = subst (λ m. Has m p ↔ Reaches e w 0 p) (leg_row t w 0 (omega arith)) (is_leg e sane t of w bytes 0 p (omega arith))

  pub same_states : (v w : List ℕ) → Bytes v → Bytes w → run t v initial ≡ run t w initial → SameSet e v w
  same_states v w first second same p =
      let a = run_reaches v p first in
      let b = run_reaches w p second in
      (λ r. b.0 (subst (λ m. Has m p) same (a.1 r)), λ r. a.0 (subst (λ m. Has m p) (sym same) (b.1 r)))

  pub same_mask : (v w : List ℕ) → Bytes v → Bytes w → SameSet e v w → run t v initial ≡ run t w initial
  same_mask v w first second same =
      same_masks (run t v initial) (run t w initial) (λ p.
      let a = run_reaches v p first in
      let b = run_reaches w p second in
      let both = same p in
      (λ h. b.1 (both.0 (a.0 h)), λ h. a.1 (both.1 (b.0 h))))

  pub more_sets : MoreMasks t ↔ MoreSets 64 e
  more_sets = (
    λ more. unlike_by 64 _ _ (λ v w first second same. after_run t v initial ∙ same_mask v w first second same ∙ sym (after_run t w initial)) more,
    λ more. unlike_by 64 _ _ (λ v w first second same. same_states v w first second (sym (after_run t v initial) ∙ same ∙ after_run t w initial)) more,
  )
