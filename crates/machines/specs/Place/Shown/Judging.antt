-- The place machine of an expression leads from state 0 to an accepting state exactly by the texts that the expression
-- means, and from every state that it reaches some text leads on to acceptance. Assumes nothing.
use Rattle.std.specs.Prelude.{◌≡◌, ℕ, zero, suc, ◌+◌, ◌<◌, ◌≤◌, ◌⊎◌, List, [], ◌∷◌, ◌++◌, refl}
use Rattle.std.proofs.Common.{sym, subst, append_assoc, inr, ⊎_elim, arith}
use Rattle.folding.specs.Texts.{Bytes}
use Rattle.notation.specs.Expressions.{Regex, Symbol, Takes, TakesSome}
use Rattle.notation.specs.Meaning.{Matches, Lang}
use Rattle.notation.specs.Places.{places}
use Rattle.machines.specs.declared.place.tables.Tables.{Tables}
use Rattle.relations.specs.Masks.{Has}
use Rattle.machines.specs.Place.Tables.{TablesOf, Comes, PlaceTakes}
use Rattle.machines.specs.Place.Runs.{Leads, Reaches}
use Rattle.machines.specs.Soundness.{Sane}
use Rattle.machines.specs.Place.Spellings.{Place, Spelling, Spells, Ends, Follows, On}
use Rattle.machines.specs.Place.Shown.Joining.{on_first, on_ends, on_before, on_after}
use Rattle.machines.specs.Place.Shown.Linear.{Linear, Walk}
use Rattle.machines.specs.Place.Shown.Spelling.{meant_spelled, spelled_meant}
use Rattle.machines.specs.Place.Shown.Spread.{spread_linear}
use Rattle.machines.specs.Place.Shown.Symbols.{spread_fine, letters}

pub led : (e : Regex) (q c p : ℕ) → 1 ≤ q → Leads e q c p → Comes e q p × PlaceTakes e c p
led e zero c p low h = absurd (omega arith)
led e (suc q) c p low h = h

pub leads : (e : Regex) (q c p : ℕ) → 1 ≤ q → Comes e q p → PlaceTakes e c p → Leads e q c p
leads e zero c p low h j = absurd (omega arith)
leads e (suc q) c p low h j = (h, j)

module _ (e : Regex) (sane : Sane e) (t : Tables) (of : TablesOf e t) where
  abbrev L : Lang (Place Symbol)
  L = Spelling e

  linear : Linear L 1 (1 + places e)
  linear = spread_linear TakesSome e sane 1

  pub on_low : (p : ℕ) (s : Symbol) → On L (p, s) → 1 ≤ p
  on_low p s o = (linear.within (p, s) o).0

  pub on_high : (p : ℕ) (s : Symbol) → On L (p, s) → p < 64
  on_high p s o = let r = linear.within (p, s) o in let f = of.few in omega arith

  -- a run to an accepting state is a walk that spells the text

  chain : (w : List ℕ) (q : ℕ) (s : Symbol) (p : ℕ) → On L (q, s) → Reaches e w q p → Has t.accepts p → (ps : List (Place Symbol)) × Walk L (q, s) ps × Spells Takes ps w
  chain [] q s p o r h =
      let x = (of.ends q (on_low q s o)).0 (subst (Has t.accepts) (sym r) h) in
      ([], subst (λ y. Ends L (q, y)) (linear.alone q x.0 s (on_ends L (q, x.0) x.1) o) x.1, tt)
  chain (c ∷ w) q s p o (r, l, more) h =
      let (comes, stands) = led e q c r (on_low q s o) l in
      let (s', u, f) = comes in
      let (u', o', takes) = stands in
      let f' : Follows L (q, s) (r, u) = subst (λ y. Follows L (q, y) (r, u)) (linear.alone q s' s (on_before L (q, s') (r, u) f) o) f in
      let on : On L (r, u) = on_after L (q, s) (r, u) f' in
      let rest = chain w r u p on more h in
      ((r, u) ∷ rest.0, (f', rest.1), (subst (λ y. Takes y c) (linear.alone r u' u o' on) takes, rest.2))

  pub run_meant : (w : List ℕ) (p : ℕ) → Reaches e w 0 p → Has t.accepts p → Matches e w
  run_meant [] p r h = of.initial.0 (subst (Has t.accepts) (sym r) h)
  run_meant (c ∷ w) p (r, (starts, stands), more) h =
      let (s, f) = starts in
      let (s', o', takes) = stands in
      let on : On L (r, s) = on_first L (r, s) f in
      let rest = chain w r s p on more h in
      spelled_meant Takes e (c ∷ w) ((r, s) ∷ rest.0, linear.local (r, s) rest.0 f rest.1, (subst (λ y. Takes y c) (linear.alone r s' s o' on) takes, rest.2))

  -- what is left of a spelling is a run

  abbrev EndsIn : List ℕ → ℕ → Type 0
  EndsIn w q = (p : ℕ) × Reaches e w q p × Has t.accepts p

  follow_on : (us : List (Place Symbol)) (q : ℕ) (s : Symbol) (ps : List (Place Symbol)) (w : List ℕ) → L (us ++ ((q, s) ∷ ps)) → Spells Takes ps w → EndsIn w q
  follow_on us q s [] [] l h = (q, refl, (of.ends q (on_low q s (us, [], l))).1 (s, (us, l)))
  follow_on us q s [] (c ∷ w) l h = absurd h
  follow_on us q s (p ∷ ps) [] l h = absurd h
  follow_on us q s (p ∷ ps) (c ∷ w) l h =
      let l' = subst L (sym (append_assoc us ((q, s) ∷ []) (p ∷ ps))) l in
      let rest = follow_on (us ++ ((q, s) ∷ [])) p.0 p.1 ps w l' h.1 in
      let step = leads e q c p.0 (on_low q s (us, p ∷ ps, l)) (s, p.1, (us, ps, l)) (p.1, (us ++ ((q, s) ∷ []), ps, l'), h.0) in
      (rest.0, (p.0, step, rest.1), rest.2)

  from_start : (ps : List (Place Symbol)) (w : List ℕ) → L ps → Spells Takes ps w → EndsIn w 0
  from_start [] [] l h = (0, refl, of.initial.1 (spelled_meant Takes e [] ([], l, tt)))
  from_start [] (c ∷ w) l h = absurd h
  from_start (p ∷ ps) [] l h = absurd h
  from_start (p ∷ ps) (c ∷ w) l h =
      let rest = follow_on [] p.0 p.1 ps w l h.1 in
      (rest.0, (p.0, ((p.1, (ps, l)), (p.1, ([], ps, l), h.0)), rest.1), rest.2)

  pub meant_run : (w : List ℕ) → Matches e w → EndsIn w 0
  meant_run w m = let s = meant_spelled Takes e w m in from_start s.0 w s.1 s.2

  -- every state that is reached is 0 or a place on some spelling

  abbrev Live : ℕ → Type 0
  Live q = (q ≡ 0) ⊎ ((s : Symbol) × On L (q, s))

  leads_live : (q c p : ℕ) → Leads e q c p → Live p
  leads_live zero c p l = let (s, o, takes) = l.1 in inr (s, o)
  leads_live (suc q) c p l = let (s, o, takes) = l.1 in inr (s, o)

  pub reaches_live : (w : List ℕ) (q p : ℕ) → Live q → Reaches e w q p → Live p
  reaches_live [] q p live r = subst Live r live
  reaches_live (c ∷ w) q p live (r, l, more) = reaches_live w r p (leads_live q c r l) more

  fine : (p : Place Symbol) → On L p → TakesSome p.1
  fine = spread_fine TakesSome e sane 1

  pub live_ends : (q : ℕ) → Live q → (v : List ℕ) × Bytes v × EndsIn v q
  live_ends q live =
      ⊎_elim
      (λ z. let m = linear.some in let v = letters L fine [] m.0 m.1 in (v.0, v.1, subst (EndsIn v.0) (sym z) (from_start m.0 v.0 m.1 v.2)))
      (λ o.
      let (s, on) = o in
      let (us, vs, l) = on in
      let v = letters L fine (us ++ ((q, s) ∷ [])) vs (subst L (sym (append_assoc us ((q, s) ∷ []) vs)) l) in
      (v.0, v.1, follow_on us q s vs v.0 l v.2))
      live
