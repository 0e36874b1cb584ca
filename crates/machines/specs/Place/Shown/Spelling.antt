-- A text is meant exactly if a spelling spells it. Assumes nothing.
use Rattle.std.specs.Prelude.{◌≡◌, ℕ, zero, suc, ◌+◌, ◌-◌, ◌*◌, List, [], ◌∷◌, ◌++◌, refl}
use Rattle.std.proofs.Common.{sym, ap, subst, ◌∙◌, inl, inr, ⊎_elim}
use Rattle.std.specs.List.{flat_map, AllByRecursion}
use Rattle.notation.specs.Expressions.{Expr, one, empty, seq, alt, star, plus, opt, counted}
use Rattle.notation.specs.Meaning.{Lang, Empty, Joined, Union, Closure, Copies, Means}
use Rattle.notation.specs.Places.{places}
use Rattle.machines.specs.Place.Spellings.{Place, series, spread, SpellingFrom, Spells, Spelled}
use Rattle.machines.specs.Place.Shown.Repeating.{closure_none, closure_more}

module _ {S A : Type 0} (takes : S → A → Type 0) where
  spells_append : (ps qs : List (Place S)) (v w : List A) → Spells takes ps v → Spells takes qs w → Spells takes (ps ++ qs) (v ++ w)
  spells_append [] qs [] w h j = j
  spells_append [] qs (a ∷ v) w h j = absurd h
  spells_append (p ∷ ps) qs [] w h j = absurd h
  spells_append (p ∷ ps) qs (a ∷ v) w h j = (h.0, spells_append ps qs v w h.1 j)

  spells_split : (ps qs : List (Place S)) (w : List A) → Spells takes (ps ++ qs) w → (u : List A) × (v : List A) × (w ≡ u ++ v) × Spells takes ps u × Spells takes qs v
  spells_split [] qs w h = ([], w, refl, tt, h)
  spells_split (p ∷ ps) qs [] h = absurd h
  spells_split (p ∷ ps) qs (a ∷ w) h =
      let g = spells_split ps qs w h.1 in
      (a ∷ g.0, g.1, ap (λ x. a ∷ x) g.2, (h.0, g.3), g.4)

  -- the texts of M are those that the members of L spell
  record Covers (L : Lang (Place S)) (M : Lang A) : Type 0 where
    to : (w : List A) → M w → (ps : List (Place S)) × L ps × Spells takes ps w
    back : (ps : List (Place S)) (w : List A) → L ps → Spells takes ps w → M w

  empty_back : (ps : List (Place S)) (w : List A) → ps ≡ [] → Spells takes ps w → w ≡ []
  empty_back ps [] e h = refl
  empty_back ps (a ∷ w) e h = absurd (subst (λ x. Spells takes x (a ∷ w)) e h)

  empty_covers : Covers Empty Empty
  empty_covers = record {
    to = λ w e. ([], refl, subst (Spells takes []) (sym e) tt);
    back = empty_back;
  }

  single_back : (o : Place S) (ps : List (Place S)) (w : List A) (p : Place S) → ps ≡ p ∷ [] → o ≡ p → Spells takes ps w → (a : A) × (w ≡ a ∷ []) × takes o.1 a
  single_back o ps w p e f h = go w (subst (λ x. Spells takes x w) (e ∙ ap (λ x. x ∷ []) (sym f)) h)
    where
      go : (w : List A) → Spells takes (o ∷ []) w → (a : A) × (w ≡ a ∷ []) × takes o.1 a
      go [] h = absurd h
      go (a ∷ []) h = (a, refl, h.0)
      go (a ∷ b ∷ w) h = absurd h.1

  joined_covers : (L L' : Lang (Place S)) (M M' : Lang A) → Covers L M → Covers L' M' → Covers (Joined L L') (Joined M M')
  joined_covers L L' M M' c d = record {
    to = λ w m.
        let f = c.to m.0 m.3 in
        let g = d.to m.1 m.4 in
        (f.0 ++ g.0, (f.0, g.0, refl, f.1, g.1), subst (Spells takes (f.0 ++ g.0)) (sym m.2) (spells_append f.0 g.0 m.0 m.1 f.2 g.2));
    back = λ ps w l h.
        let s = spells_split l.0 l.1 w (subst (λ x. Spells takes x w) l.2 h) in
        (s.0, s.1, s.2, c.back l.0 s.0 l.3 s.3, d.back l.1 s.1 l.4 s.4);
  }

  union_covers : (L L' : Lang (Place S)) (M M' : Lang A) → Covers L M → Covers L' M' → Covers (Union L L') (Union M M')
  union_covers L L' M M' c d = record {
    to = λ w m.
        ⊎_elim
        (λ x. let f = c.to w x in (f.0, inl f.1, f.2))
        (λ x. let f = d.to w x in (f.0, inr f.1, f.2))
        m;
    back = λ ps w l h. ⊎_elim (λ x. inl (c.back ps w x h)) (λ x. inr (d.back ps w x h)) l;
  }

  module _ (L : Lang (Place S)) (M : Lang A) (c : Covers L M) where
    closure_to : (ws : List (List A)) → AllByRecursion M ws → (ps : List (Place S)) × Closure L ps × Spells takes ps (flat_map (λ u. u) ws)
    closure_to [] all = ([], closure_none L, tt)
    closure_to (w ∷ ws) all =
        let f = c.to w all.0 in
        let g = closure_to ws all.1 in
        (f.0 ++ g.0, closure_more L f.0 g.0 f.1 g.1, spells_append f.0 g.0 w (flat_map (λ u. u) ws) f.2 g.2)

    closure_back : (pss : List (List (Place S))) (w : List A) → AllByRecursion L pss → Spells takes (flat_map (λ u. u) pss) w → Closure M w
    closure_back [] w all h = subst (Closure M) (sym (empty_back [] w refl h)) (closure_none M)
    closure_back (ps ∷ pss) w all h =
        let s = spells_split ps (flat_map (λ u. u) pss) w h in
        subst (Closure M) (sym s.2) (closure_more M s.0 s.1 (c.back ps s.0 all.0 s.3) (closure_back pss s.1 all.1 s.4))

    closure_covers : Covers (Closure L) (Closure M)
    closure_covers = record {
      to = λ w m. let f = closure_to m.0 m.1 in (f.0, f.1, subst (Spells takes f.0) (sym m.2) f.2);
      back = λ ps w l h. closure_back l.0 w l.1 (subst (λ x. Spells takes x w) l.2 h);
    }

  abbrev Mean : Expr (Place S) → Lang (Place S)
  Mean e = Means {S = Place S} {A = Place S} (λ p q. p ≡ q) e

  series_covers : (part : ℕ → Expr (Place S)) (width : ℕ) (M : Lang A) → ((j : ℕ) → Covers (Mean (part j)) M) → (n k : ℕ) → Covers (Mean (series part width n k)) (Copies n M)
  series_covers part width M each zero k = empty_covers
  series_covers part width M each (suc n) k = joined_covers (Mean (part k)) (Mean (series part width n (k + width))) M (Copies n M) (each k) (series_covers part width M each n (k + width))

  spread_covers : (e : Expr S) (k : ℕ) → Covers (SpellingFrom k e) (Means takes e)
  spread_covers (one s) k = record {
    to = λ w m. (((k, s) ∷ []), ((k, s), refl, refl), subst (Spells takes ((k, s) ∷ [])) (sym m.1) (m.2, tt));
    back = λ ps w l h. single_back (k, s) ps w l.0 l.1 l.2 h;
  }
  spread_covers empty k = empty_covers
  spread_covers (seq e f) k = joined_covers _ _ _ _ (spread_covers e k) (spread_covers f (k + places e))
  spread_covers (alt e f) k = union_covers _ _ _ _ (spread_covers e k) (spread_covers f (k + places e))
  spread_covers (star e) k = closure_covers _ _ (spread_covers e k)
  spread_covers (plus e) k = joined_covers _ _ _ _ (spread_covers e k) (closure_covers _ _ (spread_covers e (k + places e)))
  spread_covers (opt e) k = union_covers _ _ _ _ (spread_covers e k) empty_covers
  spread_covers (counted m n e) k =
      joined_covers _ _ _ _
      (series_covers (λ j. spread j e) (places e) (Means takes e) (spread_covers e) m k)
      (series_covers (λ j. opt (spread j e)) (places e) (Union (Means takes e) Empty) (λ j. union_covers _ _ _ _ (spread_covers e j) empty_covers) (n - m) (k + m * places e))

  pub meant_spelled : (e : Expr S) (w : List A) → Means takes e w → Spelled takes e w
  meant_spelled e w = (spread_covers e 1).to w

  pub spelled_meant : (e : Expr S) (w : List A) → Spelled takes e w → Means takes e w
  spelled_meant e w s = (spread_covers e 1).back s.0 w s.1 s.2
