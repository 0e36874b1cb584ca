-- A machine whose moves simulate a place machine is built over its tables. Assumes nothing.
use Rattle.std.specs.Prelude.{MatchBool, ◌==◌}
use Rattle.std.proofs.Common.{◌≡◌, ℕ, zero, suc, refl, List, [], ◌↔◌, get_or, sym, ap, ap₂, subst, ◌∙◌, arith}
use Rattle.std.proofs.lemmas.Bool.{ne_eqb}
use Rattle.std.proofs.lemmas.List.{append-nil}
use Rattle.folding.specs.Sets.{Hopeful, Lost}
use Rattle.folding.specs.Texts.{Bytes}
use Rattle.relations.specs.Masks.{Has}
use Rattle.relations.specs.Relations.{row}
use Rattle.machines.specs.declared.place.tables.Tables.{Tables}
use Rattle.machines.specs.declared.set.map.SetMap.{SetMap}
use Rattle.machines.specs.Place.Runs.{run, Reaches, leg}
use Rattle.machines.specs.Place.Tables.{Made, Meant}
use Rattle.machines.specs.Place.Shown.Machine.{is_leg, lost_cases, meant_matches}
use Rattle.machines.specs.Place.Shown.Running.{leg_row}
use Rattle.starts.specs.Automata.{led}
use Rattle.machines.specs.Set.Built.{SetBuilt}
use Rattle.machines.specs.Set.Maps.{to}
use Rattle.machines.specs.Set.Runs.{moved_by, transformation}
use Rattle.machines.specs.Set.Tables.{Simulates}
use Rattle.machines.proofs.SetLemmas.Composing.{associative}
use Rattle.machines.proofs.SetLemmas.Simulating.{same_led, led_set, leg_set, leg_joined}

-- a set that says which texts are lost is empty for those
lost_empty : (M : List ℕ → Type 0) (w : List ℕ) (set : ℕ) → MatchBool (set == 0) (Lost M w) (Hopeful M w) → Lost M w ↔ (set ≡ 0)
lost_empty M w zero lost = (λ _. refl, λ _. lost)
lost_empty M w (suc r) hopeful =
    let (v, bytes, meant) = subst (λ b. MatchBool b (Lost M w) (Hopeful M w)) (ne_eqb (suc r) 0 (λ none. omega arith)) hopeful in
    (λ lost. absurd (lost v bytes meant), λ none. absurd (omega arith))

module _ (t : Tables) (n : ℕ) (sets moves : List ℕ) (simulates : Simulates t n sets moves) where
  -- set 0 is led to the set that is the place machine's row of state 0
  first_row : (w : List ℕ) → Bytes w → get_or sets (to (transformation n moves w) 0) 0 ≡ row (leg t w) 0
  first_row w bytes =
      (leg_set t n sets moves simulates w 0 bytes simulates.0).1 ∙ ap (run t w) simulates.4 ∙ sym (leg_row t w 0 (omega arith))

  -- so a machine judges by this row
  pub judged : (w : List ℕ) → Bytes w → (at : SetMap) → at ≡ transformation n moves w → (first number set : ℕ) → first ≡ 0 → number ≡ to at first → set ≡ get_or sets number 0 → set ≡ row (leg t w) 0
  judged w bytes at is first number set zeroth sent has =
      has ∙ ap (λ k. get_or sets k 0) (sent ∙ ap₂ to is zeroth) ∙ first_row w bytes

  -- by single moves a text leads from set 0 to the set of that row
  pub moved_row : (w : List ℕ) → Bytes w → (at set : ℕ) → at ≡ led (moved_by moves) w 0 → set ≡ get_or sets at 0 → set ≡ row (leg t w) 0
  moved_row w bytes at set is has =
      has ∙ ap (λ k. get_or sets k 0) (is ∙ same_led t n sets moves simulates w 0 bytes simulates.0)
      ∙ (led_set t n sets moves simulates w 0 bytes simulates.0).1 ∙ ap (run t w) simulates.4 ∙ sym (leg_row t w 0 (omega arith))

  pub built : Made t → SetBuilt t n sets (Meant t) (transformation n moves)
  built made = record {
    reaches = λ w bytes s low. leg_set t n sets moves simulates w s bytes low;
    from_start = λ e sane of w bytes p.
        subst (λ m. Has m p ↔ Reaches e w 0 p) (sym (first_row w bytes)) (is_leg e sane t of w bytes 0 p (omega arith));
    means = λ e sane of. meant_matches t ∣ (e, sane, of) ∣₁ e sane of;
    lost = λ w bytes. lost_empty (Meant t) w _ (lost_cases t made w bytes (leg t w) refl _ (first_row w bytes));
    joins = λ v w bytes _. leg_joined t n sets moves simulates v w bytes;
    neutral = λ w bytes. (sym (leg_joined t n sets moves simulates [] w tt), sym (leg_joined t n sets moves simulates w [] bytes) ∙ ap (transformation n moves) (append-nil w));
    associative = associative;
  }
