-- What the first byte of a sign says of its rest, and so where no sign stands. Assumes nothing.
use Rattle.std.proofs.Common.{◌≡◌, ℕ, zero, suc, ◌+◌, ◌-◌, ◌<◌, Bool, true, false, List, [], ◌∷◌, ◌++◌, length, get_or, take, drop, sym, refl, ap, ◌∙◌, subst, append_assoc, arith, length-append, length-drop, take-append-drop}
use Rattle.std.proofs.lemmas.List.{take_at, get_or_at, get_or-drop}
use Rattle.std.proofs.lemmas.Bool.{true≢false}
use Rattle.fault.specs.declared.Fault.{Fault}
use Rattle.notation.specs.Characters.{Kind, bar, times, add, query, open', close', square, unsquare, brace, unbrace, dot, backslash, plain, kind, escapable}
use Rattle.notation.specs.Expressions.{Symbol, TakesSome, Regex}
use Rattle.notation.specs.Grammar.{Class, Counts, Atom, a_plain, an_escape, a_dot, a_class, a_group, Repeated, by_star, by_plus, by_opt, by_count}
use Rattle.pattern.specs.Signs.{SignText, an_atom, a_bar, an_open, a_close, a_repeat}
use Rattle.pattern.specs.Classes.{ClassRefused}
use Rattle.pattern.specs.Repeats.{CountsRefused}
use Rattle.pattern.proofs.Slices.{drop_is, head_is}

-- w is the rest of a sign whose first byte is of this kind
abbrev pub Shape : Kind → Bool → List ℕ → Type 0
Shape bar r w = Unit {0}
Shape times r w = r ≡ true
Shape add r w = r ≡ true
Shape query r w = r ≡ true
Shape open' r w = Unit {0}
Shape close' r w = Unit {0}
Shape square r w = (v : List ℕ) × (s : Symbol) × (w ≡ v ++ 93 ∷ []) × Class v s × TakesSome s
Shape unsquare r w = ⊥
Shape brace r w = (r ≡ true) × (m : ℕ) × (n : ℕ) × Counts w m n
Shape unbrace r w = ⊥
Shape dot r w = Unit {0}
Shape backslash r w = (b : ℕ) × (w ≡ b ∷ []) × (escapable b ≡ true)
Shape plain r w = Unit {0}

abbrev Shaped : Bool → List ℕ → Type 0
Shaped r t = (b : ℕ) × (w : List ℕ) × (t ≡ b ∷ w) × Shape (kind b) r w

atom_shape : {t : List ℕ} {e : Regex} (r : Bool) → Atom (λ _ _. ⊥) t e → Shaped r t
atom_shape r (a_plain {b} small is) = (b, [], refl, subst (λ k. Shape k r []) (sym is) tt)
atom_shape r (an_escape {b} is) = (92, b ∷ [], refl, (b, refl, is))
atom_shape r a_dot = (46, [], refl, tt)
atom_shape r (a_class {w} {s} class some) = (91, w ++ 93 ∷ [], refl, (w, s, refl, class, some))
atom_shape r (a_group g) = absurd g

repeat_shape : {t : List ℕ} {e f : Regex} → Repeated t e f → Shaped true t
repeat_shape by_star = (42, [], refl, refl)
repeat_shape by_plus = (43, [], refl, refl)
repeat_shape by_opt = (63, [], refl, refl)
repeat_shape (by_count {w} {m} {n} c) = (123, w, refl, (refl, m, n, c))

shape : {r : Bool} {t : List ℕ} → SignText r t → Shaped r t
shape (an_atom {r = r} a) = atom_shape r a
shape a_bar = (124, [], refl, tt)
shape an_open = (40, [], refl, tt)
shape a_close = (41, [], refl, tt)
shape (a_repeat rep) = repeat_shape rep

module _ (p : List ℕ) (at : ℕ) (b : ℕ) (lt : at < length p) (is : get_or p at 0 ≡ b) where
  -- the rest of a sign that stands here
  rest : (r : Bool) (n : ℕ) → SignText r (take n (drop at p)) → (k : ℕ) × Shape (kind b) r (take k (drop (at + 1) p))
  rest r n sign = found n (shape sign)
    where
      found : (n : ℕ) → Shaped r (take n (drop at p)) → (k : ℕ) × Shape (kind b) r (take k (drop (at + 1) p))
      found zero (c, w, e, shaped) = cc
      found (suc k) (c, w, e, shaped) =
          let same : b ∷ take k (drop (at + 1) p) ≡ c ∷ w = ap (take (suc k)) (sym (drop_is p at b lt is)) ∙ e in
          let first : c ≡ b = ap (λ l. get_or l 0 0) (sym same) in
          let others : w ≡ take k (drop (at + 1) p) = ap (drop 1) (sym same) in
          (k, subst (λ l. Shape (kind b) r l) others (subst (λ x. Shape (kind x) r w) first shaped))

  pub none_here : (r : Bool) → ((w : List ℕ) → Shape (kind b) r w → ⊥) → (n : ℕ) → SignText r (take n (drop at p)) → ⊥
  none_here r never n sign = let (k, shaped) = rest r n sign in never _ shaped

module _ (p : List ℕ) (at : ℕ) (lt : at < length p) where
  pub no_counts : (f : Fault) → get_or p at 0 ≡ 123 → CountsRefused p (at + 1) f → (n : ℕ) → SignText true (take n (drop at p)) → ⊥
  no_counts f is refused n sign = let (k, (_, l, m, counts)) = rest p at 123 lt is true n sign in refused.none k l m counts

  pub no_escape : (r : Bool) → get_or p at 0 ≡ 92 → (at + 1 < length p → escapable (get_or p (at + 1) 0) ≡ false) → (n : ℕ) → SignText r (take n (drop at p)) → ⊥
  no_escape r is cannot n sign =
      let (k, (b, e, can)) = rest p at 92 lt is r n sign in
      let parts : drop (at + 1) p ≡ b ∷ drop k (drop (at + 1) p) = sym (take-append-drop k (drop (at + 1) p)) ∙ ap (λ l. l ++ drop k (drop (at + 1) p)) e in
      let long : length p - (at + 1) ≡ suc (length (drop k (drop (at + 1) p))) = sym (length-drop (at + 1) p) ∙ ap length parts in
      let byte : get_or p (at + 1) 0 ≡ b = head_is p (at + 1) b _ parts in
      true≢false (sym can ∙ ap escapable (sym byte) ∙ cannot (omega arith))

  pub no_class_lem : (r : Bool) (f : Fault) → get_or p at 0 ≡ 91 → ClassRefused p (at + 1) f → (n : ℕ) → SignText r (take n (drop at p)) → ⊥
  no_class_lem r f is refused n sign =
      let (k, (v, s, e, class, some)) = rest p at 91 lt is r n sign in
      let left = drop k (drop (at + 1) p) in
      let parts : drop (at + 1) p ≡ v ++ (93 ∷ left) = sym (take-append-drop k (drop (at + 1) p)) ∙ ap (λ l. l ++ left) e ∙ append_assoc v (93 ∷ []) left in
      let long : length p - (at + 1) ≡ length v + suc (length left) = sym (length-drop (at + 1) p) ∙ ap length parts ∙ length-append v (93 ∷ left) in
      refused.none (length v) s (subst (λ l. Class l s) (sym (ap (take (length v)) parts ∙ take_at v (93 ∷ left) (length v) refl)) class) some (omega arith)
      (sym (get_or-drop (at + 1) p (length v) 0) ∙ ap (λ l. get_or l (length v) 0) parts ∙ get_or_at v 93 left 0 (length v) refl)
