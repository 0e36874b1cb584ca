-- Languages over places in which a place stands only where its number says, and the walks through their follow relation. Assumes nothing.
--
--   Walk L q ps   from q on, each place of ps follows the one before it, and the last ends a member of L
--   Linear L a b  L has a member, its places are those numbered from a to b - 1, each on some member and with one symbol,
--                 and each walk from a first place is a member
use Rattle.std.specs.Prelude.{◌≡◌, ℕ, ◌+◌, ◌<◌, ◌≤◌, List, [], ◌∷◌, ◌++◌, ◌≢◌, refl}
use Rattle.std.proofs.Common.{sym, ap, ◌∙◌, inl, inr, ⊎_elim, arith}
use Rattle.notation.specs.Expressions.{one}
use Rattle.notation.specs.Meaning.{Lang, Empty, Union, Means}
use Rattle.std.proofs.lemmas.Bool.{cases_lt}
use Rattle.machines.specs.Place.Spellings.{Place, First, Ends, Follows, On}
use Rattle.machines.specs.Place.Shown.Splits.{head_same, tail_same, not_empty}
use Rattle.machines.specs.Place.Shown.Joining.{Inhabited, none_append, none_on, on_first, on_ends, on_before, on_after, union_first, union_ends, union_follows, union_on, on_larger}

abbrev pub Walk : {P : Type 0} → Lang P → P → List P → Type 0
Walk L q [] = Ends L q
Walk L q (p ∷ ps) = Follows L q p × Walk L p ps

pub record Linear {S : Type 0} (L : Lang (Place S)) (lo hi : ℕ) : Type 0 where
  pub some : Inhabited L
  pub within : (p : Place S) → On L p → (lo ≤ p.0) × (p.0 < hi)
  pub local : (p : Place S) (ps : List (Place S)) → First L p → Walk L p ps → L (p ∷ ps)
  pub live : (k : ℕ) → lo ≤ k → k < hi → (s : S) × On L (k, s)
  pub alone : (k : ℕ) (s t : S) → On L (k, s) → On L (k, t) → s ≡ t

-- One place.

abbrev pub Single : {S : Type 0} → Place S → Lang (Place S)
Single {S} p = Means {S = Place S} {A = Place S} (λ q r. q ≡ r) (one p)

module _ {S : Type 0} (o : Place S) where
  in_single : (p : Place S) (us vs : List (Place S)) (a : Place S) → us ++ (p ∷ vs) ≡ a ∷ [] → o ≡ a → o ≡ p
  in_single p [] vs a e f = f ∙ sym (head_same e)
  in_single p (u ∷ us) vs a e f = absurd (none_append us p vs (tail_same e))

  pub single_on : (p : Place S) → On (Single o) p → o ≡ p
  single_on p (us, vs, (a, e, f)) = in_single p us vs a e f

  single_apart : (q p : Place S) (us vs : List (Place S)) (a : Place S) → us ++ (q ∷ p ∷ vs) ≢ a ∷ []
  single_apart q p [] vs a e = not_empty (tail_same e)
  single_apart q p (u ∷ us) vs a e = none_append us q (p ∷ vs) (tail_same e)

  pub single_follows : (q p : Place S) → Follows (Single o) q p → ⊥
  single_follows q p (us, vs, (a, e, f)) = single_apart q p us vs a e

  single_local : (p : Place S) (ps : List (Place S)) → First (Single o) p → Walk (Single o) p ps → Single o (p ∷ ps)
  single_local p [] f w = (p, refl, single_on p (on_first (Single o) p f))
  single_local p (q ∷ ps) f w = absurd (single_follows p q w.0)

  pub single_linear : Linear (Single o) o.0 (o.0 + 1)
  single_linear = record {
    some = (o ∷ [], (o, refl, refl));
    within = λ p h. let e : o.0 ≡ p.0 = ap (λ x. x.0) (single_on p h) in (omega arith, omega arith);
    local = single_local;
    live = λ k low high.
        let e : o.0 ≡ k = omega arith in
        (o.1, ([], [], ((k, o.1), refl, (λ i. (e i, o.1)))));
    alone = λ k s t h j. sym (ap (λ x. x.1) (single_on (k, s) h)) ∙ ap (λ x. x.1) (single_on (k, t) j);
  }

-- No place.

pub empty_linear : {S : Type 0} (k : ℕ) → Linear {S = S} Empty k k
empty_linear {S} k = record {
  some = ([], refl);
  within = λ p h. absurd (none_on p h);
  local = λ p ps f w. absurd (none_on p (on_first {P = Place S} Empty p f));
  live = λ j low high. absurd (omega arith);
  alone = λ j s t h i. absurd (none_on (j, s) h);
}

-- One language or another, whose places come later.

module _ {S : Type 0} (L M : Lang (Place S)) (a b c : ℕ) (l : Linear L a b) (m : Linear M b c) where
  union_left : (q : Place S) (ps : List (Place S)) → q.0 < b → Walk (Union L M) q ps → Walk L q ps
  union_left q [] low w = ⊎_elim (λ h. h) (λ h. absurd (let r = m.within q (on_ends M q h) in omega arith)) (union_ends L M q w)
  union_left q (p ∷ ps) low w =
      ⊎_elim
      (λ h. (h, union_left p ps (l.within p (on_after L q p h)).1 w.1))
      (λ h. absurd (let r = m.within q (on_before M q p h) in omega arith))
      (union_follows L M q p w.0)

  union_right : (q : Place S) (ps : List (Place S)) → b ≤ q.0 → Walk (Union L M) q ps → Walk M q ps
  union_right q [] low w = ⊎_elim (λ h. absurd (let r = l.within q (on_ends L q h) in omega arith)) (λ h. h) (union_ends L M q w)
  union_right q (p ∷ ps) low w =
      ⊎_elim
      (λ h. absurd (let r = l.within q (on_before L q p h) in omega arith))
      (λ h. (h, union_right p ps (m.within p (on_after M q p h)).0 w.1))
      (union_follows L M q p w.0)

  pub union_linear : a ≤ b → b ≤ c → Linear (Union L M) a c
  union_linear ab bc = record {
    some = (l.some.0, inl l.some.1);
    within = λ p h.
        ⊎_elim
        (λ o. let r = l.within p o in (r.0, omega arith))
        (λ o. let r = m.within p o in (omega arith, r.1))
        (union_on L M p h);
    local = λ p ps f w.
        ⊎_elim
        (λ g. inl (l.local p ps g (union_left p ps (l.within p (on_first L p g)).1 w)))
        (λ g. inr (m.local p ps g (union_right p ps (m.within p (on_first M p g)).0 w)))
        (union_first L M p f);
    live = λ k low high.
        ⊎_elim
        (λ lt. let h = l.live k low lt in (h.0, on_larger L (Union L M) (λ ps x. inl x) (k, h.0) h.1))
        (λ le. let h = m.live k le high in (h.0, on_larger M (Union L M) (λ ps x. inr x) (k, h.0) h.1))
        (cases_lt k b);
    alone = λ k s t h j.
        ⊎_elim
        (λ x. ⊎_elim (λ y. l.alone k s t x y) (λ y. absurd (let r = l.within (k, s) x in let z = m.within (k, t) y in omega arith)) (union_on L M (k, t) j))
        (λ x. ⊎_elim (λ y. absurd (let r = m.within (k, s) x in let z = l.within (k, t) y in omega arith)) (λ y. m.alone k s t x y) (union_on L M (k, t) j))
        (union_on L M (k, s) h);
  }
