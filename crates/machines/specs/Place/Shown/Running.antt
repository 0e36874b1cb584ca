-- What a text does to sets of states, by the tables: member by member, and for two texts joined. Assumes nothing.
use Rattle.std.specs.Prelude.{◌≡◌, ℕ, ◌^◌, ◌<◌, List, [], ◌∷◌, ◌++◌, slice_index}
use Rattle.std.proofs.Math.Path.{refl, subst}
use Rattle.std.proofs.Common.{sym, ap, ◌∙◌}
use Rattle.relations.specs.declared.relation.Relation.{Relation}
use Rattle.machines.specs.declared.place.tables.Tables.{Tables}
use Rattle.relations.specs.Masks.{Has, image}
use Rattle.relations.specs.Relations.{rows_of, row, composed, identity}
use Rattle.machines.specs.Place.Runs.{stepped, run, leg}
use Rattle.relations.proofs.Composing.{same_relation}
use Rattle.relations.proofs.Images.{image_members}
use Rattle.relations.proofs.Bits.{same_masks, and_has, has_and, power_has, has_power}
use Rattle.relations.proofs.Rows.{rows_at, same_rows}

module _ (t : Tables) where
  abbrev pub LeadsBy : ℕ → ℕ → ℕ → Type 0
  LeadsBy q c p = (q < 64) × Has (slice_index t.follow q) p × Has (slice_index t.takes c) p

  abbrev pub ReachesBy : List ℕ → ℕ → ℕ → Type 0
  ReachesBy [] q p = q ≡ p
  ReachesBy (c ∷ w) q p = (r : ℕ) × LeadsBy q c r × ReachesBy w r p

  pub run_has : (w : List ℕ) (set p : ℕ) → Has (run t w set) p → (q : ℕ) × Has set q × ReachesBy w q p
  unfolding run
  run_has [] set p h = (p, h, refl)
  run_has (c ∷ w) set p h =
      let x = run_has w (stepped t set c) p h in
      let y = and_has (image t.follow set) (slice_index t.takes c) x.0 x.1 in
      let z = (image_members t.follow set x.0).0 y.0 in
      (z.0, z.2, (x.0, (z.1, z.3, y.1), x.2))

  pub has_run : (w : List ℕ) (set p q : ℕ) → Has set q → ReachesBy w q p → Has (run t w set) p
  unfolding run
  has_run [] set p q h e = subst (Has set) e h
  has_run (c ∷ w) set p q h (r, l, more) =
      has_run w (stepped t set c) p r
      (has_and (image t.follow set) (slice_index t.takes c) r ((image_members t.follow set r).1 (q, l.0, h, l.1)) l.2)
      more

  pub run_append : (v w : List ℕ) (set : ℕ) → run t (v ++ w) set ≡ run t w (run t v set)
  unfolding run
  run_append [] w set = refl
  run_append (c ∷ v) w set = run_append v w (stepped t set c)

  pub run_one : (w : List ℕ) (c set : ℕ) → run t (w ++ (c ∷ [])) set ≡ stepped t (run t w set) c
  unfolding run
  run_one w c set = run_append w (c ∷ []) set

  pub leg_row : (w : List ℕ) (q : ℕ) → q < 64 → row (leg t w) q ≡ run t w (2 ^ q)
  leg_row w q lt = rows_at (λ q. run t w (2 ^ q)) q lt

  pub leg_has : (w : List ℕ) (q p : ℕ) → q < 64 → Has (row (leg t w) q) p → ReachesBy w q p
  leg_has w q p lt h =
      let x = run_has w (2 ^ q) p (subst (λ m. Has m p) (leg_row w q lt) h) in
      subst (λ k. ReachesBy w k p) (power_has q x.0 x.1) x.2

  pub has_leg : (w : List ℕ) (q p : ℕ) → q < 64 → ReachesBy w q p → Has (row (leg t w) q) p
  has_leg w q p lt r = subst (λ m. Has m p) (sym (leg_row w q lt)) (has_run w (2 ^ q) p q (has_power q) r)

  -- one byte more
  pub leg_more : (w : List ℕ) (c : ℕ) (at r : Relation) → at ≡ leg t w → r.rows ≡ rows_of (λ q. stepped t (row at q) c) → r ≡ leg t (w ++ (c ∷ []))
  leg_more w c at r is rows =
      same_relation r (leg t (w ++ (c ∷ [])))
      (rows
      ∙ same_rows (λ q. stepped t (row at q) c) (λ q. run t (w ++ (c ∷ [])) (2 ^ q))
      (λ q lt. ap (λ x. stepped t (row x q) c) is ∙ ap (λ x. stepped t x c) (leg_row w q lt) ∙ sym (run_one w c (2 ^ q))))

  -- the text leads to no state past the 63rd
  abbrev pub Narrow : List ℕ → Type 0
  Narrow w = (q p : ℕ) → q < 64 → ReachesBy w q p → p < 64

  pub leg_joined : (v w : List ℕ) → Narrow v → leg t (v ++ w) ≡ composed (leg t v) (leg t w)
  leg_joined v w narrow =
      same_relation (leg t (v ++ w)) (composed (leg t v) (leg t w))
      (same_rows (λ q. run t (v ++ w) (2 ^ q)) (λ q. image (leg t w).rows (row (leg t v) q))
      (λ q lt.
      run_append v w (2 ^ q) ∙ ap (run t w) (sym (leg_row v q lt))
      ∙ same_masks (run t w (row (leg t v) q)) (image (leg t w).rows (row (leg t v) q)) (λ p. (there q lt p, back q lt p))))
    where
      there : (q : ℕ) → q < 64 → (p : ℕ) → Has (run t w (row (leg t v) q)) p → Has (image (leg t w).rows (row (leg t v) q)) p
      there q lt p h =
          let x = run_has w (row (leg t v) q) p h in
          let l = narrow q x.0 lt (leg_has v q x.0 lt x.1) in
          (image_members (leg t w).rows (row (leg t v) q) p).1 (x.0, l, x.1, has_leg w x.0 p l x.2)

      back : (q : ℕ) → q < 64 → (p : ℕ) → Has (image (leg t w).rows (row (leg t v) q)) p → Has (run t w (row (leg t v) q)) p
      back q lt p h =
          let x = (image_members (leg t w).rows (row (leg t v) q) p).0 h in
          has_run w (row (leg t v) q) p x.0 x.2 (leg_has w x.0 p x.1 x.3)

  pub leg_none : identity ≡ leg t []
  unfolding run
  leg_none = refl

  pub reaches_split : (v w : List ℕ) (q p : ℕ) → ReachesBy (v ++ w) q p → (r : ℕ) × ReachesBy v q r × ReachesBy w r p
  reaches_split [] w q p h = (q, refl, h)
  reaches_split (c ∷ v) w q p (m, l, h) = let x = reaches_split v w m p h in (x.0, (m, l, x.1), x.2)

  pub reaches_join : (v w : List ℕ) (q r p : ℕ) → ReachesBy v q r → ReachesBy w r p → ReachesBy (v ++ w) q p
  reaches_join [] w q r p e h = subst (λ x. ReachesBy w x p) (sym e) h
  reaches_join (c ∷ v) w q r p (m, l, more) h = (m, l, reaches_join v w m r p more h)
