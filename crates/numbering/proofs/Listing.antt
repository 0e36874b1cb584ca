-- What stands where in a list, in the front of one, in one with an element behind it, and in the list of the images. Assumes nothing.
use Rattle.std.proofs.Common.{◌≡◌, ℕ, zero, suc, ◌<◌, ◌⊎◌, List, [], ◌∷◌, ◌++◌, length, map, take, Contains, Some, refl, sym, ap, ◌∙◌, inl, inr, arith}
use Rattle.std.specs.List.{slice_get}
use Rattle.std.specs.Option.{option_map}
use Rattle.std.proofs.lemmas.List.{length-map}
use Rattle.std.proofs.lemmas.Option.{none-some, same_Some, slice_get_within, slice_get-map, slice_get-get_or, get_or_from_slice_get}

pub same_at_each : {X : Type 0} (xs ys : List X) → ((k : ℕ) → slice_get xs k ≡ slice_get ys k) → xs ≡ ys
same_at_each [] [] same = refl
same_at_each [] (y ∷ ys) same = absurd (none-some y (same 0))
same_at_each (x ∷ xs) [] same = absurd (none-some x (sym (same 0)))
same_at_each (x ∷ xs) (y ∷ ys) same =
    let head : x ≡ y = same_Some x y (same 0) in
    let tail : xs ≡ ys = same_at_each xs ys (λ k. same (suc k)) in
    cc

pub within : {X : Type 0} (xs : List X) (k : ℕ) → k < length xs → (x : X) × (slice_get xs k ≡ Some x)
within [] k lt = absurd (omega arith)
within (x ∷ xs) zero lt = (x, refl)
within (x ∷ xs) (suc k) lt = within xs k (omega arith)

pub contains_at : {X : Type 0} (xs : List X) (k : ℕ) (x : X) → slice_get xs k ≡ Some x → Contains xs x
contains_at xs k x at = (k, slice_get_within xs k x at, get_or_from_slice_get xs k x x at)

pub at_contains : {X : Type 0} (xs : List X) (x : X) → Contains xs x → (k : ℕ) × (slice_get xs k ≡ Some x)
at_contains xs x has = (has.0, slice_get-get_or xs has.0 x has.1 ∙ ap Some has.2)

pub at_front : {X : Type 0} (n : ℕ) (xs : List X) (k : ℕ) (x : X) → slice_get (take n xs) k ≡ Some x → slice_get xs k ≡ Some x
at_front zero xs k x at = absurd (none-some x at)
at_front (suc n) [] k x at = at
at_front (suc n) (y ∷ xs) zero x at = at
at_front (suc n) (y ∷ xs) (suc k) x at = at_front n xs k x at

pub front_at : {X : Type 0} (n : ℕ) (xs : List X) (k : ℕ) → k < n → slice_get (take n xs) k ≡ slice_get xs k
front_at zero xs k lt = absurd (omega arith)
front_at (suc n) [] k lt = refl
front_at (suc n) (y ∷ xs) zero lt = refl
front_at (suc n) (y ∷ xs) (suc k) lt = front_at n xs k (omega arith)

pub push_old : {X : Type 0} (xs : List X) (y : X) (k : ℕ) (x : X) → slice_get xs k ≡ Some x → slice_get (xs ++ (y ∷ [])) k ≡ Some x
push_old [] y k x at = absurd (none-some x at)
push_old (z ∷ xs) y zero x at = at
push_old (z ∷ xs) y (suc k) x at = push_old xs y k x at

pub push_new : {X : Type 0} (xs : List X) (y : X) → slice_get (xs ++ (y ∷ [])) (length xs) ≡ Some y
push_new [] y = refl
push_new (x ∷ xs) y = push_new xs y

pub push_cases : {X : Type 0} (xs : List X) (y : X) (k : ℕ) (x : X) → slice_get (xs ++ (y ∷ [])) k ≡ Some x → (slice_get xs k ≡ Some x) ⊎ ((k ≡ length xs) × (x ≡ y))
push_cases [] y zero x at = inr (refl, sym (same_Some y x at))
push_cases [] y (suc k) x at = absurd (none-some x at)
push_cases (z ∷ xs) y zero x at = inl at
push_cases (z ∷ xs) y (suc k) x at = elim (push_cases xs y k x at) [ inl old ↦ inl old | inr new ↦ inr (ap suc new.0, new.1) ]

pub at_map : {X Y : Type 0} (f : X → Y) (xs : List X) (k : ℕ) (x : X) → slice_get xs k ≡ Some x → slice_get (map f xs) k ≡ Some (f x)
at_map f xs k x at = slice_get-map f xs k ∙ ap (option_map f) at

pub map_at : {X Y : Type 0} (f : X → Y) (xs : List X) (k : ℕ) (y : Y) → slice_get (map f xs) k ≡ Some y → (x : X) × (slice_get xs k ≡ Some x) × (y ≡ f x)
map_at f xs k y at =
    let inside : k < length xs = omega (arith, slice_get_within (map f xs) k y at, length-map xs f) in
    let w = within xs k inside in
    (w.0, w.1, same_Some y (f w.0) (sym at ∙ at_map f xs k w.0 w.1))
