-- The place machine judges: what it says of a leg is what the expression says of the text. Assumes nothing.
use Rattle.std.specs.Prelude.{◌≡◌, ℕ, zero, suc, ◌<◌, Bool, true, false, not, ◌↔◌, List, [], ◌∷◌, ◌++◌, Decides, MatchBool, ◌==◌, bit_and, refl}
use Rattle.std.proofs.Common.{sym, subst, inl, arith}
use Rattle.std.proofs.Math.Bool.{Bool-set}
use mathlib.Core.HLevel.{⊥_prop}
use Rattle.std.proofs.Math.Logic.{∥∥₁_elim, ∥∥₁_map}
use Rattle.std.proofs.Math.Bridge.{le_prop}
use Rattle.std.proofs.lemmas.Bool.{eqb-true, eqb-false, ne_eqb, not-true, not_from_false}
use Rattle.folding.specs.Sets.{Hopeful, Lost}
use Rattle.folding.specs.Texts.{Bytes}
use Rattle.folding.proofs.Texts.{bytes_append}
use Rattle.notation.specs.Expressions.{Regex}
use Rattle.notation.specs.Meaning.{Matches}
use Rattle.relations.specs.declared.relation.Relation.{Relation}
use Rattle.machines.specs.declared.place.tables.Tables.{Tables}
use Rattle.relations.specs.Masks.{Has}
use Rattle.machines.specs.Place.Tables.{TablesOf, Made, Meant, PlaceTakes}
use Rattle.relations.specs.Relations.{row}
use Rattle.machines.specs.Place.Runs.{Leads, Reaches, leg, IsLeg}
use Rattle.machines.specs.Soundness.{Sane}
use Rattle.machines.specs.Place.Shown.Judging.{on_high, run_meant, meant_run, reaches_live, live_ends}
use Rattle.relations.proofs.Bits.{some_member, zero_has, and_has, has_and}
use Rattle.machines.specs.Place.Shown.Running.{LeadsBy, ReachesBy, Narrow, leg_has, has_leg, reaches_split, reaches_join}
use Rattle.machines.specs.Place.Shown.Searching.{Away, away_found, away_text}

when_from : {P Q : Type 0} (b : Bool) → (b ≡ true → P) → (b ≡ false → Q) → MatchBool b P Q
when_from true p q = p refl
when_from false p q = q refl

-- The tables of an expression lead where the expression does.

module _ (e : Regex) (sane : Sane e) (t : Tables) (of : TablesOf e t) where
  stands_high : (c p : ℕ) → PlaceTakes e c p → p < 64
  stands_high c p (s, o, takes) = on_high e sane t of p s o

  leads_high : (q c p : ℕ) → Leads e q c p → p < 64
  leads_high zero c p l = stands_high c p l.1
  leads_high (suc q) c p l = stands_high c p l.1

  by_leads : (q c p : ℕ) → c < 256 → LeadsBy t q c p → Leads e q c p
  by_leads zero c p byte l = ((of.first p).0 l.1, (of.takes c p byte).0 l.2)
  by_leads (suc q) c p byte l = ((of.follow (suc q) p (omega arith) l.0).0 l.1, (of.takes c p byte).0 l.2)

  leads_by : (q c p : ℕ) → c < 256 → q < 64 → Leads e q c p → LeadsBy t q c p
  leads_by zero c p byte low l = (low, (of.first p).1 l.0, (of.takes c p byte).1 l.1)
  leads_by (suc q) c p byte low l = (low, (of.follow (suc q) p (omega arith) low).1 l.0, (of.takes c p byte).1 l.1)

  pub by_reaches : (w : List ℕ) (q p : ℕ) → Bytes w → ReachesBy t w q p → Reaches e w q p
  by_reaches [] q p bytes r = r
  by_reaches (c ∷ w) q p bytes (m, l, more) = (m, by_leads q c m bytes.0 l, by_reaches w m p bytes.1 more)

  pub reaches_by : (w : List ℕ) (q p : ℕ) → Bytes w → q < 64 → Reaches e w q p → ReachesBy t w q p
  reaches_by [] q p bytes low r = r
  reaches_by (c ∷ w) q p bytes low (m, l, more) = (m, leads_by q c m bytes.0 low l, reaches_by w m p bytes.1 (leads_high q c m l) more)

  pub is_leg : (w : List ℕ) → Bytes w → IsLeg e (leg t w) w
  is_leg w bytes q p low = (λ h. by_reaches w q p bytes (leg_has t w q p low h), λ r. has_leg t w q p low (reaches_by w q p bytes low r))

  reaches_high : (w : List ℕ) (q p : ℕ) → q < 64 → Reaches e w q p → p < 64
  reaches_high [] q p low r = subst (λ x. x < 64) r low
  reaches_high (c ∷ w) q p low (m, l, more) = reaches_high w m p (leads_high q c m l) more

  pub narrow : (w : List ℕ) → Bytes w → Narrow t w
  narrow w bytes q p low r = reaches_high w q p low (by_reaches w q p bytes r)

  -- acceptance is some bytes away from where a text leads
  away : (w : List ℕ) (q p : ℕ) → Bytes w → q < 64 → Reaches e w q p → Has t.accepts p → (n : ℕ) × Away t n q
  away [] q p bytes low r h = (0, subst (Has t.accepts) (sym r) h)
  away (c ∷ w) q p bytes low (m, l, more) h =
      let x = away w m p bytes.1 (leads_high q c m l) more h in
      (suc x.0, (m, leads_high q c m l, (c, bytes.0, (leads_by q c m bytes.0 low l, x.1))))

  pub reached_away : (w : List ℕ) (q : ℕ) → Bytes w → ReachesBy t w 0 q → (n : ℕ) × Away t n q
  reached_away w q bytes r =
      let r' = by_reaches w 0 q bytes r in
      let (v, more, (p, s, h)) = live_ends e sane t of q (reaches_live e sane t of w 0 q (inl refl) r') in
      away v q p more (reaches_high w 0 q (omega arith) r') s h

-- The machine of some expression.

module _ (t : Tables) (made : Made t) where
  pub made_narrow : (w : List ℕ) → Bytes w → Narrow t w
  made_narrow w bytes q p low r = ∥∥₁_elim made le_prop (λ x. narrow x.0 x.1 t x.2 w bytes q p low r)

  -- w leads from state 0 to an accepting state
  abbrev Accepted : List ℕ → Type 0
  Accepted w = (p : ℕ) × ReachesBy t w 0 p × Has t.accepts p

  accepted_meant : (w : List ℕ) → Bytes w → Accepted w → Meant t w
  accepted_meant w bytes (p, r, h) e sane of = run_meant e sane t of w p (by_reaches e sane t of w 0 p bytes r) h

  matched_accepted : (w : List ℕ) → Bytes w → (e : Regex) → Sane e → TablesOf e t → Matches e w → Accepted w
  matched_accepted w bytes e sane of m =
      let (p, r, h) = meant_run e sane t of w m in
      (p, reaches_by e sane t of w 0 p bytes (omega arith) r, h)

  meant_accepted : (w : List ℕ) → Bytes w → Meant t w → ∥ (Accepted w) ∥₁
  meant_accepted w bytes m = ∥∥₁_map made (λ x. matched_accepted w bytes x.0 x.1 x.2 (m x.0 x.1 x.2))

  pub meant_matches : (e : Regex) → Sane e → TablesOf e t → (w : List ℕ) → Bytes w → Meant t w ↔ Matches e w
  meant_matches e sane of w bytes = (λ m. m e sane of, λ m. accepted_meant w bytes (matched_accepted w bytes e sane of m))

  -- from wherever w leads, some text leads on
  pub reached_hopeful : (w : List ℕ) (q : ℕ) → Bytes w → ReachesBy t w 0 q → Hopeful (Meant t) w
  reached_hopeful w q bytes r =
      let (n, a) = away_found t q (∥∥₁_map made (λ x. reached_away x.0 x.1 t x.2 w q bytes r)) in
      let (v, more, p, s, h) = away_text t n q a in
      (v, more, accepted_meant (w ++ v) (bytes_append w v bytes more) (p, reaches_join t w v 0 q p r s, h))

  -- where w leads nowhere, nothing helps
  unreached_lost : (w : List ℕ) → Bytes w → ((q : ℕ) → ReachesBy t w 0 q → ⊥) → Lost (Meant t) w
  unreached_lost w bytes none v more m =
      ∥∥₁_elim (meant_accepted (w ++ v) (bytes_append w v bytes more) m) ⊥_prop
      (λ a. let (p, r, h) = a in let (q, first, second) = reaches_split t w v 0 p r in none q first)

  module _ (w : List ℕ) (bytes : Bytes w) (l : Relation) (is : l ≡ leg t w) (r : ℕ) (first : r ≡ row l 0) where
    row_reached : (p : ℕ) → Has r p → ReachesBy t w 0 p
    row_reached p h = leg_has t w 0 p (omega arith) (subst (λ x. Has (row x 0) p) is (subst (λ x. Has x p) first h))

    reached_row : (p : ℕ) → ReachesBy t w 0 p → Has r p
    reached_row p h = subst (λ x. Has x p) (sym first) (subst (λ x. Has (row x 0) p) (sym is) (has_leg t w 0 p (omega arith) h))

    pub accepts_decides : Decides (not (bit_and r t.accepts == 0)) (Meant t w)
    accepts_decides = (there, λ m. ∥∥₁_elim (meant_accepted w bytes m) (Bool-set _ true) back)
      where
        there : not (bit_and r t.accepts == 0) ≡ true → Meant t w
        there h =
            let (p, x) = some_member (bit_and r t.accepts) (eqb-false _ 0 (not-true _ h)) in
            let (in_row, ends) = and_has r t.accepts p x in
            accepted_meant w bytes (p, row_reached p in_row, ends)

        back : Accepted w → not (bit_and r t.accepts == 0) ≡ true
        back (p, x, h) = not_from_false _ (ne_eqb _ 0 (λ z. zero_has p (subst (λ x. Has x p) z (has_and r t.accepts p (reached_row p x) h))))

    pub lost_cases : MatchBool (r == 0) (Lost (Meant t) w) (Hopeful (Meant t) w)
    lost_cases =
        when_from (r == 0)
        (λ z. unreached_lost w bytes (λ q h. zero_has q (subst (λ x. Has x q) (eqb-true r 0 z) (reached_row q h))))
        (λ nz. let (q, h) = some_member r (eqb-false r 0 nz) in reached_hopeful w q bytes (row_reached q h))

pub made_inhabited : (t : Tables) → Made t → Hopeful (Meant t) []
made_inhabited t made = reached_hopeful t made [] 0 tt refl
