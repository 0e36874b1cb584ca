-- The tables of a language whose places are all numbered n later. Assumes nothing.
use Rattle.std.proofs.Common.{◌≡◌, ℕ, ◌+◌, ◌-◌, ◌<◌, ◌≤◌, List, [], ◌∷◌, ◌++◌, map, sym, refl, ap, ◌∙◌, subst, inl, inr, ⊎_elim, arith}
use Rattle.std.proofs.lemmas.List.{map-append}
use Rattle.notation.specs.Expressions.{Symbol, Takes}
use Rattle.notation.specs.Meaning.{Lang}
use Rattle.machines.specs.declared.place.tables.Tables.{Tables}
use Rattle.machines.specs.Place.Operations.{followers, takers, Later}
use Rattle.relations.specs.Masks.{Has}
use Rattle.machines.specs.Place.Spellings.{Place, First, Ends, Follows, On}
use Rattle.machines.specs.Place.Shown.Joining.{on_first, on_ends, on_before, on_after}
use Rattle.machines.specs.Place.Shown.Linear.{Linear}
use Rattle.machines.proofs.PlaceLemmas.Moving.{up, Moves}
use Rattle.machines.specs.Place.Shown.Splits.{head_same, tail_same, not_empty}
use Rattle.machines.proofs.PlaceLemmas.Tabling.{TablesFor}

module _ {S : Type 0} (n : ℕ) where
  front : (x : Place S) (vs bs : List (Place S)) → x ∷ vs ≡ map (up n) bs → (b : Place S) × (cs : List (Place S)) × (bs ≡ b ∷ cs) × (x ≡ up n b) × (vs ≡ map (up n) cs)
  front x vs [] e = absurd (not_empty e)
  front x vs (b ∷ cs) e = (b, cs, refl, head_same e, tail_same e)

  parts : (us vs qs : List (Place S)) → us ++ vs ≡ map (up n) qs → (fs : List (Place S)) × (bs : List (Place S)) × (qs ≡ fs ++ bs) × (vs ≡ map (up n) bs)
  parts [] vs qs e = ([], qs, refl, e)
  parts (u ∷ us) vs [] e = absurd (not_empty e)
  parts (u ∷ us) vs (q ∷ qs) e = let (fs, bs, f, g) = parts us vs qs (tail_same e) in (q ∷ fs, bs, ap (λ x. q ∷ x) f, g)

  module _ (L M : Lang (Place S)) (c : Moves n L M) where
    moved_first : (x : Place S) → First M x → (y : Place S) × (x ≡ up n y) × First L y
    moved_first x (ps, m) =
        let (qs, l, e) = c.back (x ∷ ps) m in
        let (y, cs, f, g, h) = front x ps qs e in
        (y, g, (cs, subst L f l))

    first_moved : (y : Place S) → First L y → First M (up n y)
    first_moved y (ps, l) = (map (up n) ps, c.to (y ∷ ps) l)

    moved_on : (x : Place S) → On M x → (y : Place S) × (x ≡ up n y) × On L y
    moved_on x (us, vs, m) =
        let (qs, l, e) = c.back (us ++ (x ∷ vs)) m in
        let (fs, bs, f, g) = parts us (x ∷ vs) qs e in
        let (y, cs, h, i, j) = front x vs bs g in
        (y, i, (fs, cs, subst L (f ∙ ap (λ z. fs ++ z) h) l))

    on_moved : (y : Place S) → On L y → On M (up n y)
    on_moved y (us, vs, l) = (map (up n) us, map (up n) vs, subst M (map-append (up n) us (y ∷ vs)) (c.to (us ++ (y ∷ vs)) l))

    moved_ends : (x : Place S) → Ends M x → (y : Place S) × (x ≡ up n y) × Ends L y
    moved_ends x (us, m) =
        let (qs, l, e) = c.back (us ++ (x ∷ [])) m in
        let (fs, bs, f, g) = parts us (x ∷ []) qs e in
        let (y, cs, h, i, j) = front x [] bs g in
        (y, i, (fs, subst L (f ∙ ap (λ z. fs ++ z) h ∙ ap (λ z. fs ++ (y ∷ z)) (none cs j)) l))
      where
        none : (cs : List (Place S)) → [] ≡ map (up n) cs → cs ≡ []
        none [] e = refl
        none (b ∷ cs) e = absurd (not_empty (sym e))

    ends_moved : (y : Place S) → Ends L y → Ends M (up n y)
    ends_moved y (us, l) = (map (up n) us, subst M (map-append (up n) us (y ∷ [])) (c.to (us ++ (y ∷ [])) l))

    moved_follows : (x z : Place S) → Follows M x z → (y : Place S) × (w : Place S) × (x ≡ up n y) × (z ≡ up n w) × Follows L y w
    moved_follows x z (us, vs, m) =
        let (qs, l, e) = c.back (us ++ (x ∷ z ∷ vs)) m in
        let (fs, bs, f, g) = parts us (x ∷ z ∷ vs) qs e in
        let (y, cs, h, i, j) = front x (z ∷ vs) bs g in
        let (w, ds, h', i', j') = front z vs cs j in
        (y, w, i, i', (fs, ds, subst L (f ∙ ap (λ k. fs ++ k) h ∙ ap (λ k. fs ++ (y ∷ k)) h') l))

    follows_moved : (y w : Place S) → Follows L y w → Follows M (up n y) (up n w)
    follows_moved y w (us, vs, l) = (map (up n) us, map (up n) vs, subst M (map-append (up n) us (y ∷ w ∷ vs)) (c.to (us ++ (y ∷ w ∷ vs)) l))

    none_moved : M [] → L []
    none_moved m = let (qs, l, e) = c.back [] m in none qs l e
      where
        none : (qs : List (Place S)) → L qs → [] ≡ map (up n) qs → L []
        none [] l e = l
        none (q ∷ qs) l e = absurd (not_empty (sym e))

-- where the number p stands for a place, p - n did before
module _ (n lo hi : ℕ) (low : 1 ≤ lo) (room : hi + n ≤ 64) (L M : Lang (Place Symbol)) (c : Moves n L M) (a r : Tables) (linear : Linear L lo hi) (l : TablesFor L a) (by : Later n a r) where
  -- the number of a place of M, and that of the place of L that it comes from
  shown : (p : ℕ) (s : Symbol) (y : Place Symbol) → (p, s) ≡ up n y → On L y → (n < p) × (p < 64) × (y.0 ≡ p - n)
  shown p s y e o =
      let r = linear.within y o in
      let f : p ≡ y.0 + n = ap (λ x. x.0) e in
      (omega arith, omega arith, omega arith)

  again : (p : ℕ) → n < p → p - n + n ≡ p
  again p lt = omega arith

  pub later_tables : TablesFor M r
  later_tables = record {
    first = λ p. (
      λ h.
          let (x, (lt, high, old)) = (by.rows 0 p (omega arith)).0 h in
          let (s, f) = (l.first (p - n)).0 (subst (λ y. Has (followers a y) (p - n)) (omega arith) old) in
          (s, subst (λ y. First M (y, s)) (again p lt) (first_moved n L M c (p - n, s) f)),
      λ f.
          let (y, e, g) = moved_first n L M c (p, f.0) f.1 in
          let (lt, high, is) = shown p f.0 y e (on_first L y g) in
          let old : Has (followers a 0) (p - n) = subst (Has (followers a 0)) is ((l.first y.0).1 (y.1, g)) in
          (by.rows 0 p (omega arith)).1 (inl refl, (lt, high, subst (λ z. Has (followers a z) (p - n)) (omega arith) old)),
    );
    follow = λ q p one high. (
      λ h.
          let (x, (lt, up_to_lem, old)) = (by.rows q p high).0 h in
          let past : n < q = ⊎_elim (λ z. absurd (omega arith)) (λ z. z) x in
          let (s, u, f) = (l.follow (q - n) (p - n) (omega arith) (omega arith)).0 old in
          (s, u, subst (λ y. Follows M (q, s) (y, u)) (again p lt) (subst (λ y. Follows M (y, s) (p - n + n, u)) (again q past) (follows_moved n L M c (q - n, s) (p - n, u) f))),
      λ f.
          let (y, w, e, g, h) = moved_follows n L M c (q, f.0) (p, f.1) f.2 in
          let (past, high', is) = shown q f.0 y e (on_before L y w h) in
          let (lt, up_to_lem, is') = shown p f.1 w g (on_after L y w h) in
          let old = (l.follow y.0 w.0 (omega arith) (omega arith)).1 (y.1, w.1, h) in
          (by.rows q p high).1 (inr past, (lt, up_to_lem, subst (Has (followers a (q - n))) is' (subst (λ z. Has (followers a z) w.0) is old))),
    );
    takes = λ k p byte. (
      λ h.
          let (lt, high, old) = (by.takes k p byte).0 h in
          let (s, o, t) = (l.takes k (p - n) byte).0 old in
          (s, subst (λ y. On M (y, s)) (again p lt) (on_moved n L M c (p - n, s) o), t),
      λ f.
          let (y, e, o) = moved_on n L M c (p, f.0) f.1 in
          let (lt, high, is) = shown p f.0 y e o in
          let old = (l.takes k y.0 byte).1 (y.1, o, subst (λ x. Takes x k) (ap (λ x. x.1) e) f.2) in
          (by.takes k p byte).1 (lt, high, subst (Has (takers a k)) is old),
    );
    ends = λ p one. (
      λ h.
          let (lt, high, old) = ⊎_elim (λ z. absurd (let e = z.0 in omega arith)) (λ z. z) ((by.accepts p).0 h) in
          let (s, f) = (l.ends (p - n) (omega arith)).0 old in
          (s, subst (λ y. Ends M (y, s)) (again p lt) (ends_moved n L M c (p - n, s) f)),
      λ f.
          let (y, e, g) = moved_ends n L M c (p, f.0) f.1 in
          let (lt, high, is) = shown p f.0 y e (on_ends L y g) in
          (by.accepts p).1 (inr (lt, high, subst (Has a.accepts) is ((l.ends y.0 (omega arith)).1 (y.1, g)))),
    );
    initial = (
      λ h. c.to [] (l.initial.0 (⊎_elim (λ z. z.1) (λ z. absurd (let e = z.0 in omega arith)) ((by.accepts 0).0 h))),
      λ m. (by.accepts 0).1 (inl (refl, l.initial.1 (none_moved n L M c m))),
    );
  }
