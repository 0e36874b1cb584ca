-- What comes first, ends, follows and stands in the members of two languages joined or united. Assumes nothing.
use Rattle.std.specs.Prelude.{◌⊎◌, List, [], ◌∷◌, ◌++◌, ◌≢◌, refl}
use Rattle.std.proofs.Common.{sym, subst, append_assoc, append-nil, inl, inr, ⊎_elim}
use Rattle.notation.specs.Meaning.{Lang, Empty, Joined, Union}
use Rattle.machines.specs.Place.Spellings.{First, Ends, Follows, On}
use Rattle.machines.specs.Place.Shown.Splits.{split_at, split_pair, split_last, split_first, not_empty}

-- a language with a member
abbrev pub Inhabited : {P : Type 0} → Lang P → Type 0
Inhabited {P} L = (ps : List P) × L ps

module _ {P : Type 0} (L : Lang P) where
  pub on_first : (p : P) → First L p → On L p
  on_first p h = ([], h.0, h.1)

  pub on_ends : (p : P) → Ends L p → On L p
  on_ends p h = (h.0, [], h.1)

  pub on_before : (q p : P) → Follows L q p → On L q
  on_before q p h = (h.0, p ∷ h.1, h.2)

  pub on_after : (q p : P) → Follows L q p → On L p
  on_after q p h = (h.0 ++ (q ∷ []), h.1, subst L (sym (append_assoc h.0 (q ∷ []) (p ∷ h.1))) h.2)

pub none_append : {P : Type 0} (us : List P) (p : P) (vs : List P) → us ++ (p ∷ vs) ≢ []
none_append [] p vs e = not_empty e
none_append (u ∷ us) p vs e = not_empty e

pub none_on : {P : Type 0} (p : P) → On {P = P} Empty p → ⊥
none_on p h = none_append h.0 p h.1 h.2

module _ {P : Type 0} (L M : Lang P) where
  pub joined_first : (p : P) → First (Joined L M) p → First L p ⊎ (L [] × First M p)
  joined_first p (ps, (u, v, e, l, m)) =
      ⊎_elim
      (λ h. inl (h.0, subst L h.1 l))
      (λ h. inr (subst L h.0 l, (ps, subst M h.1 m)))
      (split_first p ps u v e)

  pub first_left : (p : P) → Inhabited M → First L p → First (Joined L M) p
  first_left p (v, m) (ps, l) = (ps ++ v, (p ∷ ps, v, refl, l, m))

  pub first_right : (p : P) → L [] → First M p → First (Joined L M) p
  first_right p l (ps, m) = (ps, ([], p ∷ ps, refl, l, m))

  pub joined_ends : (p : P) → Ends (Joined L M) p → Ends M p ⊎ (M [] × Ends L p)
  joined_ends p (ps, (u, v, e, l, m)) =
      ⊎_elim
      (λ h. inr (subst M h.1 m, (ps, subst L h.0 l)))
      (λ h. inl (h.0, subst M h.1 m))
      (split_last ps p u v e)

  pub ends_right : (p : P) → Inhabited L → Ends M p → Ends (Joined L M) p
  ends_right p (u, l) (ps, m) = (u ++ ps, (u, ps ++ (p ∷ []), append_assoc u ps (p ∷ []), l, m))

  pub ends_left : (p : P) → M [] → Ends L p → Ends (Joined L M) p
  ends_left p m (ps, l) = (ps, (ps ++ (p ∷ []), [], sym (append-nil (ps ++ (p ∷ []))), l, m))

  pub joined_follows : (q p : P) → Follows (Joined L M) q p → Follows L q p ⊎ ((Ends L q × First M p) ⊎ Follows M q p)
  joined_follows q p (us, vs, (u, v, e, l, m)) =
      ⊎_elim
      (λ h. inl (us, h.0, subst L h.1 l))
      (⊎_elim (λ h. inr (inl ((us, subst L h.0 l), (vs, subst M h.1 m)))) (λ h. inr (inr (h.0, vs, subst M h.1 m))))
      (split_pair us q p vs u v e)

  pub follows_left : (q p : P) → Inhabited M → Follows L q p → Follows (Joined L M) q p
  follows_left q p (v, m) (us, vs, l) = (us, vs ++ v, (us ++ (q ∷ p ∷ vs), v, sym (append_assoc us (q ∷ p ∷ vs) v), l, m))

  pub follows_right : (q p : P) → Inhabited L → Follows M q p → Follows (Joined L M) q p
  follows_right q p (u, l) (us, vs, m) = (u ++ us, vs, (u, us ++ (q ∷ p ∷ vs), append_assoc u us (q ∷ p ∷ vs), l, m))

  pub follows_across : (q p : P) → Ends L q → First M p → Follows (Joined L M) q p
  follows_across q p (us, l) (vs, m) = (us, vs, (us ++ (q ∷ []), p ∷ vs, sym (append_assoc us (q ∷ []) (p ∷ vs)), l, m))

  pub joined_on : (p : P) → On (Joined L M) p → On L p ⊎ On M p
  joined_on p (us, vs, (u, v, e, l, m)) =
      ⊎_elim
      (λ h. inl (us, h.0, subst L h.1 l))
      (λ h. inr (h.0, vs, subst M h.2 m))
      (split_at us p vs u v e)

  pub joined_on_left : (p : P) → Inhabited M → On L p → On (Joined L M) p
  joined_on_left p (v, m) (us, vs, l) = (us, vs ++ v, (us ++ (p ∷ vs), v, sym (append_assoc us (p ∷ vs) v), l, m))

  pub joined_on_right : (p : P) → Inhabited L → On M p → On (Joined L M) p
  joined_on_right p (u, l) (us, vs, m) = (u ++ us, vs, (u, us ++ (p ∷ vs), append_assoc u us (p ∷ vs), l, m))

  -- one of two languages: each part of a union is a part of a member of either
  pub union_first : (p : P) → First (Union L M) p → First L p ⊎ First M p
  union_first p (ps, h) = ⊎_elim (λ l. inl (ps, l)) (λ m. inr (ps, m)) h

  pub union_ends : (p : P) → Ends (Union L M) p → Ends L p ⊎ Ends M p
  union_ends p (ps, h) = ⊎_elim (λ l. inl (ps, l)) (λ m. inr (ps, m)) h

  pub union_follows : (q p : P) → Follows (Union L M) q p → Follows L q p ⊎ Follows M q p
  union_follows q p (us, vs, h) = ⊎_elim (λ l. inl (us, vs, l)) (λ m. inr (us, vs, m)) h

  pub union_on : (p : P) → On (Union L M) p → On L p ⊎ On M p
  union_on p (us, vs, h) = ⊎_elim (λ l. inl (us, vs, l)) (λ m. inr (us, vs, m)) h

-- what holds of a part of L holds of it in a larger language
module _ {P : Type 0} (L M : Lang P) (larger : (ps : List P) → L ps → M ps) where
  pub first_larger : (p : P) → First L p → First M p
  first_larger p (ps, l) = (ps, larger (p ∷ ps) l)

  pub ends_larger : (p : P) → Ends L p → Ends M p
  ends_larger p (ps, l) = (ps, larger (ps ++ (p ∷ [])) l)

  pub follows_larger : (q p : P) → Follows L q p → Follows M q p
  follows_larger q p (us, vs, l) = (us, vs, larger (us ++ (q ∷ p ∷ vs)) l)

  pub on_larger : (p : P) → On L p → On M p
  on_larger p (us, vs, l) = (us, vs, larger (us ++ (p ∷ vs)) l)
