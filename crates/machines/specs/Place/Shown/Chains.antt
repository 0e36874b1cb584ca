-- Linear languages, joined and repeated. Assumes nothing.
use Rattle.std.specs.Prelude.{◌≡◌, ℕ, ◌<◌, ◌≤◌, ◌⊎◌, List, [], ◌∷◌, ◌++◌, refl}
use Rattle.std.proofs.Common.{sym, ap, subst, inl, inr, ⊎_elim, arith}
use Rattle.std.proofs.lemmas.Bool.{cases_lt}
use Rattle.notation.specs.Meaning.{Lang, Joined, Closure}
use Rattle.machines.specs.Place.Spellings.{Place, First}
use Rattle.machines.specs.Place.Shown.Joining.{on_first, on_ends, on_before, on_after, joined_first, joined_ends, joined_follows, joined_on, joined_on_left, joined_on_right, on_larger}
use Rattle.machines.specs.Place.Shown.Repeating.{closure_once, closure_none, closure_more, closure_first, closure_ends, closure_follows, closure_on}
use Rattle.machines.specs.Place.Shown.Linear.{Walk, Linear}

-- One language and then another, whose places come later.

module _ {S : Type 0} (L M : Lang (Place S)) (a b c : ℕ) (l : Linear L a b) (m : Linear M b c) where
  -- a walk in the second part stays there
  joined_second : (q : Place S) (ps : List (Place S)) → b ≤ q.0 → Walk (Joined L M) q ps → Walk M q ps
  joined_second q [] low w = ⊎_elim (λ h. h) (λ h. absurd (let r = l.within q (on_ends L q h.1) in omega arith)) (joined_ends L M q w)
  joined_second q (p ∷ ps) low w =
      ⊎_elim
      (λ h. absurd (let r = l.within q (on_before L q p h) in omega arith))
      (⊎_elim
      (λ h. absurd (let r = l.within q (on_ends L q h.0) in omega arith))
      (λ h. (h, joined_second p ps (m.within p (on_after M q p h)).0 w.1)))
      (joined_follows L M q p w.0)

  -- a walk in the first part ends there, or crosses once
  abbrev Crosses : Place S → List (Place S) → Type 0
  Crosses q ps = (us : List (Place S)) × (p : Place S) × (vs : List (Place S)) × (ps ≡ us ++ (p ∷ vs)) × Walk L q us × First M p × Walk M p vs

  joined_start : (q : Place S) (ps : List (Place S)) → q.0 < b → Walk (Joined L M) q ps → (Walk L q ps × M []) ⊎ Crosses q ps
  joined_start q [] low w = ⊎_elim (λ h. absurd (let r = m.within q (on_ends M q h) in omega arith)) (λ h. inl (h.1, h.0)) (joined_ends L M q w)
  joined_start q (p ∷ ps) low w =
      ⊎_elim
      (λ h.
      ⊎_elim
      (λ g. inl ((h, g.0), g.1))
      (λ g. inr (p ∷ g.0, g.1, g.2, ap (λ x. p ∷ x) g.3, (h, g.4), g.5, g.6))
      (joined_start p ps (l.within p (on_after L q p h)).1 w.1))
      (⊎_elim
      (λ h. inr ([], p, ps, refl, h.0, h.1, joined_second p ps (m.within p (on_first M p h.1)).0 w.1))
      (λ h. absurd (let r = m.within q (on_before M q p h) in omega arith)))
      (joined_follows L M q p w.0)

  joined_local : (p : Place S) (ps : List (Place S)) → First (Joined L M) p → Walk (Joined L M) p ps → Joined L M (p ∷ ps)
  joined_local p ps f w =
      ⊎_elim
      (λ g.
      ⊎_elim
      (λ h. (p ∷ ps, [], sym (mathlib.Core.List.append-nil (p ∷ ps)), l.local p ps g h.0, h.1))
      (λ h. (p ∷ h.0, h.1 ∷ h.2, ap (λ x. p ∷ x) h.3, l.local p h.0 g h.4, m.local h.1 h.2 h.5 h.6))
      (joined_start p ps (l.within p (on_first L p g)).1 w))
      (λ g. ([], p ∷ ps, refl, g.0, m.local p ps g.1 (joined_second p ps (m.within p (on_first M p g.1)).0 w)))
      (joined_first L M p f)

  pub joined_linear : a ≤ b → b ≤ c → Linear (Joined L M) a c
  joined_linear ab bc = record {
    some = (l.some.0 ++ m.some.0, (l.some.0, m.some.0, refl, l.some.1, m.some.1));
    within = λ p h.
        ⊎_elim
        (λ o. let r = l.within p o in (r.0, omega arith))
        (λ o. let r = m.within p o in (omega arith, r.1))
        (joined_on L M p h);
    local = joined_local;
    live = λ k low high.
        ⊎_elim
        (λ lt. let h = l.live k low lt in (h.0, joined_on_left L M (k, h.0) m.some h.1))
        (λ le. let h = m.live k le high in (h.0, joined_on_right L M (k, h.0) l.some h.1))
        (cases_lt k b);
    alone = λ k s t h j.
        ⊎_elim
        (λ x. ⊎_elim (λ y. l.alone k s t x y) (λ y. absurd (let r = l.within (k, s) x in let z = m.within (k, t) y in omega arith)) (joined_on L M (k, t) j))
        (λ x. ⊎_elim (λ y. absurd (let r = m.within (k, s) x in let z = l.within (k, t) y in omega arith)) (λ y. m.alone k s t x y) (joined_on L M (k, t) j))
        (joined_on L M (k, s) h);
  }

-- Any number of members of one language.

module _ {S : Type 0} (L : Lang (Place S)) (a b : ℕ) (l : Linear L a b) where
  -- a walk goes through one member after the other
  abbrev Rounds : Place S → List (Place S) → Type 0
  Rounds q ps = (us : List (Place S)) × (vs : List (Place S)) × (ps ≡ us ++ vs) × Walk L q us × Closure L vs

  closure_walk : (q : Place S) (ps : List (Place S)) → Walk (Closure L) q ps → Rounds q ps
  closure_walk q [] w = ([], [], refl, closure_ends L q w, closure_none L)
  closure_walk q (p ∷ ps) w =
      let g = closure_walk p ps w.1 in
      ⊎_elim
      (λ h. (p ∷ g.0, g.1, ap (λ x. p ∷ x) g.2, (h, g.3), g.4))
      (λ h. ([], p ∷ ps, refl, h.0, subst (Closure L) (sym (ap (λ x. p ∷ x) g.2)) (closure_more L (p ∷ g.0) g.1 (l.local p g.0 h.1 g.3) g.4)))
      (closure_follows L q p w.0)

  closure_local : (p : Place S) (ps : List (Place S)) → First (Closure L) p → Walk (Closure L) p ps → Closure L (p ∷ ps)
  closure_local p ps f w =
      let g = closure_walk p ps w in
      subst (Closure L) (sym (ap (λ x. p ∷ x) g.2)) (closure_more L (p ∷ g.0) g.1 (l.local p g.0 (closure_first L p f) g.3) g.4)

  pub closure_linear : Linear (Closure L) a b
  closure_linear = record {
    some = ([], closure_none L);
    within = λ p h. l.within p (closure_on L p h);
    local = closure_local;
    live = λ k low high. let h = l.live k low high in (h.0, on_larger L (Closure L) (closure_once L) (k, h.0) h.1);
    alone = λ k s t h j. l.alone k s t (closure_on L (k, s) h) (closure_on L (k, t) j);
  }
