-- Where a list that is two lists joined has a certain element. Assumes nothing.
use Rattle.std.specs.Prelude.{◌≡◌, ◌⊎◌, List, [], ◌∷◌, ◌++◌, ◌≢◌, refl}
use Rattle.std.proofs.Common.{sym, ap, subst, ◌∙◌, inl, inr, ⊎_elim}

pub head_same : {P : Type 0} {x y : P} {xs ys : List P} → x ∷ xs ≡ y ∷ ys → x ≡ y
head_same e = cc

pub tail_same : {P : Type 0} {x y : P} {xs ys : List P} → x ∷ xs ≡ y ∷ ys → xs ≡ ys
tail_same e = cc

NonEmpty : {P : Type 0} → List P → Type 0
NonEmpty [] = ⊥
NonEmpty (x ∷ xs) = Unit {0}

pub not_empty : {P : Type 0} {x : P} {xs : List P} → x ∷ xs ≢ []
unfolding NonEmpty
not_empty e = subst NonEmpty e tt

-- the element stands in the first list
abbrev pub InFirst : {P : Type 0} → List P → P → List P → List P → List P → Type 0
InFirst {P} us p vs a b = (ws : List P) × (a ≡ us ++ (p ∷ ws)) × (vs ≡ ws ++ b)

-- the element stands in the second list
abbrev pub InSecond : {P : Type 0} → List P → P → List P → List P → List P → Type 0
InSecond {P} us p vs a b = (ws : List P) × (us ≡ a ++ ws) × (b ≡ ws ++ (p ∷ vs))

pub split_at : {P : Type 0} (us : List P) (p : P) (vs a b : List P) → us ++ (p ∷ vs) ≡ a ++ b → InFirst us p vs a b ⊎ InSecond us p vs a b
split_at us p vs [] b e = inr (us, refl, sym e)
split_at [] p vs (x ∷ a) b e = inl (a, ap (λ y. y ∷ a) (sym (head_same e)), tail_same e)
split_at (u ∷ us) p vs (x ∷ a) b e =
    ⊎_elim
    (λ h. inl (h.0, (λ i. sym (head_same e) i ∷ h.1 i), h.2))
    (λ h. inr (h.0, (λ i. head_same e i ∷ h.1 i), h.2))
    (split_at us p vs a b (tail_same e))

-- Two neighbours stand in the first list, or the first ends with one and the second begins with the other, or both stand in the second.
abbrev pub Between : {P : Type 0} → List P → P → P → List P → List P → List P → Type 0
Between us q p vs a b = (a ≡ us ++ (q ∷ [])) × (b ≡ p ∷ vs)

abbrev pub BothFirst : {P : Type 0} → List P → P → P → List P → Type 0
BothFirst {P} us q p a = (ws : List P) × (a ≡ us ++ (q ∷ p ∷ ws))

abbrev pub BothSecond : {P : Type 0} → P → P → List P → List P → Type 0
BothSecond {P} q p vs b = (ws : List P) × (b ≡ ws ++ (q ∷ p ∷ vs))

split_inside : {P : Type 0} (us : List P) (q p : P) (vs a b ws : List P) → a ≡ us ++ (q ∷ ws) → p ∷ vs ≡ ws ++ b → BothFirst us q p a ⊎ Between us q p vs a b
split_inside us q p vs a b [] e f = inr (e, sym f)
split_inside us q p vs a b (w ∷ ws) e f = inl (ws, e ∙ ap (λ x. us ++ (q ∷ x ∷ ws)) (sym (head_same f)))

pub split_pair : {P : Type 0} (us : List P) (q p : P) (vs a b : List P) → us ++ (q ∷ p ∷ vs) ≡ a ++ b → BothFirst us q p a ⊎ (Between us q p vs a b ⊎ BothSecond q p vs b)
split_pair us q p vs a b e =
    ⊎_elim
    (λ h. ⊎_elim inl (λ m. inr (inl m)) (split_inside us q p vs a b h.0 h.1 h.2))
    (λ h. inr (inr (h.0, h.2)))
    (split_at us q (p ∷ vs) a b e)

-- The last element ends the second list, or the first where the second is empty.
pub both_empty : {P : Type 0} (u v : List P) → [] ≡ u ++ v → (u ≡ []) × (v ≡ [])
both_empty [] v e = (refl, sym e)
both_empty (x ∷ u) v e = absurd (not_empty (sym e))

abbrev pub LastFirst : {P : Type 0} → List P → P → List P → List P → Type 0
LastFirst us p a b = (a ≡ us ++ (p ∷ [])) × (b ≡ [])

abbrev pub LastSecond : {P : Type 0} → P → List P → Type 0
LastSecond {P} p b = (ws : List P) × (b ≡ ws ++ (p ∷ []))

pub split_last : {P : Type 0} (us : List P) (p : P) (a b : List P) → us ++ (p ∷ []) ≡ a ++ b → LastFirst us p a b ⊎ LastSecond p b
split_last us p a b e =
    ⊎_elim
    (λ h. inl (h.1 ∙ ap (λ w. us ++ (p ∷ w)) (both_empty h.0 b h.2).0, (both_empty h.0 b h.2).1))
    (λ h. inr (h.0, h.2))
    (split_at us p [] a b e)

-- The first element begins the first list, or the second where the first is empty.
abbrev pub FirstFirst : {P : Type 0} → P → List P → Type 0
FirstFirst {P} p a = (ws : List P) × (a ≡ p ∷ ws)

abbrev pub FirstSecond : {P : Type 0} → P → List P → List P → List P → Type 0
FirstSecond p ps a b = (a ≡ []) × (b ≡ p ∷ ps)

pub split_first : {P : Type 0} (p : P) (ps a b : List P) → p ∷ ps ≡ a ++ b → FirstFirst p a ⊎ FirstSecond p ps a b
split_first p ps [] b e = inr (refl, sym e)
split_first p ps (x ∷ a) b e = inl (a, ap (λ y. y ∷ a) (sym (head_same e)))
