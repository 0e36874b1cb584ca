-- A language whose places are all numbered n later. Assumes nothing.
use Rattle.std.proofs.Common.{◌≡◌, ℕ, zero, suc, ◌+◌, ◌-◌, ◌*◌, List, [], ◌∷◌, ◌++◌, map, sym, refl, ap, ◌∙◌, subst, inl, inr, ⊎_elim, arith}
use Rattle.std.specs.List.{flat_map, AllByRecursion}
use Rattle.std.proofs.lemmas.List.{map-append}
use Rattle.notation.specs.Expressions.{Expr, one, empty, seq, alt, star, plus, opt, counted}
use Rattle.notation.specs.Meaning.{Lang, Empty, Joined, Union, Closure, Means}
use Rattle.notation.specs.Places.{places}
use Rattle.machines.specs.Place.Spellings.{Place, series, spread, SpellingFrom}
use Rattle.machines.specs.Place.Shown.Repeating.{closure_none, closure_more}

module _ {S : Type 0} (n : ℕ) where
  abbrev pub up : Place S → Place S
  up p = (p.0 + n, p.1)

  pub record Moves (L M : Lang (Place S)) : Type 0 where
    pub to : (ps : List (Place S)) → L ps → M (map up ps)
    pub back : (ps : List (Place S)) → M ps → (qs : List (Place S)) × L qs × (ps ≡ map up qs)

  single_moves : (k : ℕ) (s : S) → Moves (Means {S = Place S} {A = Place S} (λ p q. p ≡ q) (one (k, s))) (Means {S = Place S} {A = Place S} (λ p q. p ≡ q) (one (k + n, s)))
  single_moves k s = record {
    to = λ ps l. let (a, e, f) = l in (up a, ap (map up) e, ap up f);
    back = λ ps m. let (a, e, f) = m in ((k, s) ∷ [], ((k, s), refl, refl), e ∙ ap (λ x. x ∷ []) (sym f));
  }

  empty_moves : Moves Empty Empty
  empty_moves = record {
    to = λ ps e. ap (map up) e;
    back = λ ps e. ([], refl, e);
  }

  joined_moves : (L L' M M' : Lang (Place S)) → Moves L M → Moves L' M' → Moves (Joined L L') (Joined M M')
  joined_moves L L' M M' c d = record {
    to = λ ps l. let (u, v, e, x, y) = l in (map up u, map up v, ap (map up) e ∙ map-append up u v, c.to u x, d.to v y);
    back = λ ps m.
        let (u, v, e, x, y) = m in
        let (u', l, f) = c.back u x in
        let (v', l', g) = d.back v y in
        (u' ++ v', (u', v', refl, l, l'), e ∙ (λ i. f i ++ g i) ∙ sym (map-append up u' v'));
  }

  union_moves : (L L' M M' : Lang (Place S)) → Moves L M → Moves L' M' → Moves (Union L L') (Union M M')
  union_moves L L' M M' c d = record {
    to = λ ps l. ⊎_elim (λ x. inl (c.to ps x)) (λ x. inr (d.to ps x)) l;
    back = λ ps m.
        ⊎_elim
        (λ x. let (qs, l, e) = c.back ps x in (qs, inl l, e))
        (λ x. let (qs, l, e) = d.back ps x in (qs, inr l, e))
        m;
  }

  module _ (L M : Lang (Place S)) (c : Moves L M) where
    closure_to : (ws : List (List (Place S))) → AllByRecursion L ws → Closure M (map up (flat_map (λ u. u) ws))
    closure_to [] all = closure_none M
    closure_to (w ∷ ws) all = subst (Closure M) (sym (map-append up w (flat_map (λ u. u) ws))) (closure_more M (map up w) _ (c.to w all.0) (closure_to ws all.1))

    closure_back : (ws : List (List (Place S))) → AllByRecursion M ws → (qs : List (Place S)) × Closure L qs × (flat_map (λ u. u) ws ≡ map up qs)
    closure_back [] all = ([], closure_none L, refl)
    closure_back (w ∷ ws) all =
        let (u, l, e) = c.back w all.0 in
        let (v, m, f) = closure_back ws all.1 in
        (u ++ v, closure_more L u v l m, (λ i. e i ++ f i) ∙ sym (map-append up u v))

    closure_moves : Moves (Closure L) (Closure M)
    closure_moves = record {
      to = λ ps l. subst (λ x. Closure M (map up x)) (sym l.2) (closure_to l.0 l.1);
      back = λ ps m. let (qs, l, e) = closure_back m.0 m.1 in (qs, l, m.2 ∙ e);
    }

  abbrev Mean : Expr (Place S) → Lang (Place S)
  Mean e = Means {S = Place S} {A = Place S} (λ p q. p ≡ q) e

  series_moves : (part : ℕ → Expr (Place S)) (w : ℕ) → ((j : ℕ) → Moves (Mean (part j)) (Mean (part (j + n)))) → (m k : ℕ) → Moves (Mean (series part w m k)) (Mean (series part w m (k + n)))
  series_moves part w each zero k = empty_moves
  series_moves part w each (suc m) k =
      joined_moves (Mean (part k)) (Mean (series part w m (k + w))) (Mean (part (k + n))) (Mean (series part w m (k + n + w))) (each k)
      (subst (λ x. Moves (Mean (series part w m (k + w))) (Mean (series part w m x))) (omega arith) (series_moves part w each m (k + w)))

  behind : (e : Expr S) (k w : ℕ) → ((j : ℕ) → Moves (SpellingFrom j e) (SpellingFrom (j + n) e)) → Moves (SpellingFrom (k + w) e) (SpellingFrom (k + n + w) e)
  behind e k w each = subst (λ x. Moves (SpellingFrom (k + w) e) (SpellingFrom x e)) (omega arith) (each (k + w))

  -- the same expression, from a later place on
  pub spread_moves : (e : Expr S) (k : ℕ) → Moves (SpellingFrom k e) (SpellingFrom (k + n) e)
  spread_moves (one s) k = single_moves k s
  spread_moves empty k = empty_moves
  spread_moves (seq e f) k = joined_moves _ _ _ _ (spread_moves e k) (behind f k (places e) (spread_moves f))
  spread_moves (alt e f) k = union_moves _ _ _ _ (spread_moves e k) (behind f k (places e) (spread_moves f))
  spread_moves (star e) k = closure_moves _ _ (spread_moves e k)
  spread_moves (plus e) k = joined_moves _ _ _ _ (spread_moves e k) (closure_moves _ _ (behind e k (places e) (spread_moves e)))
  spread_moves (opt e) k = union_moves _ _ _ _ (spread_moves e k) empty_moves
  spread_moves (counted m l e) k =
      let part : ℕ → Expr (Place S) = λ j. opt (spread j e) in
      let from : ℕ = k + m * places e in
      joined_moves _ _ _ _
      (series_moves (λ j. spread j e) (places e) (spread_moves e) m k)
      (subst (λ x. Moves (Mean (series part (places e) (l - m) from)) (Mean (series part (places e) (l - m) x))) (omega arith)
      (series_moves part (places e) (λ j. union_moves _ _ _ _ (spread_moves e j) empty_moves) (l - m) from))
