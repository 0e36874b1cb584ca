-- What comes first, ends, follows and stands in the members of a closure. Assumes nothing.
use Rattle.std.specs.Prelude.{◌≡◌, ◌⊎◌, List, [], ◌∷◌, ◌++◌, refl}
use Rattle.std.proofs.Common.{sym, ap, subst, ◌∙◌, append_assoc, append-nil, inl, inr, ⊎_elim}
use Rattle.std.specs.List.{flat_map, AllByRecursion}
use Rattle.notation.specs.Meaning.{Lang, Closure}
use Rattle.machines.specs.Place.Spellings.{First, Ends, Follows, On}
use Rattle.machines.specs.Place.Shown.Splits.{split_at, split_pair, split_last, split_first, not_empty}
use Rattle.machines.specs.Place.Shown.Joining.{none_append}

-- the members of a list of lists, one after the other
abbrev flat : {P : Type 0} → List (List P) → List P
flat ws = flat_map (λ u. u) ws

module _ {P : Type 0} (L : Lang P) where
  pub closure_once : (w : List P) → L w → Closure L w
  closure_once w l = (w ∷ [], (l, tt), sym (append-nil w))

  pub closure_none : Closure L []
  closure_none = ([], tt, refl)

  pub closure_more : (u v : List P) → L u → Closure L v → Closure L (u ++ v)
  closure_more u v l (ws, all, e) = (u ∷ ws, (l, all), ap (λ x. u ++ x) e)

  first_in : (p : P) (ps : List P) (ws : List (List P)) → AllByRecursion L ws → p ∷ ps ≡ flat ws → First L p
  first_in p ps [] all e = absurd (not_empty e)
  first_in p ps (w ∷ ws) all e =
      ⊎_elim
      (λ h. (h.0, subst L h.1 all.0))
      (λ h. first_in p ps ws all.1 (sym h.1))
      (split_first p ps w (flat ws) e)

  pub closure_first : (p : P) → First (Closure L) p → First L p
  closure_first p (ps, (ws, all, e)) = first_in p ps ws all e

  ends_in : (p : P) (ps : List P) (ws : List (List P)) → AllByRecursion L ws → ps ++ (p ∷ []) ≡ flat ws → Ends L p
  ends_in p ps [] all e = absurd (none_append ps p [] e)
  ends_in p ps (w ∷ ws) all e =
      ⊎_elim
      (λ h. (ps, subst L h.0 all.0))
      (λ h. ends_in p h.0 ws all.1 (sym h.1))
      (split_last ps p w (flat ws) e)

  pub closure_ends : (p : P) → Ends (Closure L) p → Ends L p
  closure_ends p (ps, (ws, all, e)) = ends_in p ps ws all e

  follows_in : (q p : P) (us vs : List P) (ws : List (List P)) → AllByRecursion L ws → us ++ (q ∷ p ∷ vs) ≡ flat ws → Follows L q p ⊎ (Ends L q × First L p)
  follows_in q p us vs [] all e = absurd (none_append us q (p ∷ vs) e)
  follows_in q p us vs (w ∷ ws) all e =
      ⊎_elim
      (λ h. inl (us, h.0, subst L h.1 all.0))
      (⊎_elim
      (λ h. inr ((us, subst L h.0 all.0), first_in p vs ws all.1 (sym h.1)))
      (λ h. follows_in q p h.0 vs ws all.1 (sym h.1)))
      (split_pair us q p vs w (flat ws) e)

  pub closure_follows : (q p : P) → Follows (Closure L) q p → Follows L q p ⊎ (Ends L q × First L p)
  closure_follows q p (us, vs, (ws, all, e)) = follows_in q p us vs ws all e

  -- around the loop
  pub follows_round : (q p : P) → Ends L q → First L p → Follows (Closure L) q p
  follows_round q p (us, l) (vs, m) =
      (us, vs, (((us ++ (q ∷ [])) ∷ (p ∷ vs) ∷ []), (l, (m, tt)), sym (append_assoc us (q ∷ []) (p ∷ vs)) ∙ ap (λ x. (us ++ (q ∷ [])) ++ x) (sym (append-nil (p ∷ vs)))))

  on_in : (p : P) (us vs : List P) (ws : List (List P)) → AllByRecursion L ws → us ++ (p ∷ vs) ≡ flat ws → On L p
  on_in p us vs [] all e = absurd (none_append us p vs e)
  on_in p us vs (w ∷ ws) all e =
      ⊎_elim
      (λ h. (us, h.0, subst L h.1 all.0))
      (λ h. on_in p h.0 vs ws all.1 (sym h.2))
      (split_at us p vs w (flat ws) e)

  pub closure_on : (p : P) → On (Closure L) p → On L p
  closure_on p (us, vs, (ws, all, e)) = on_in p us vs ws all e
