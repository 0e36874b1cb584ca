-- The union of the rows of a set's members: by members, and one member to a turn. Assumes nothing.
use Rattle.std.specs.Prelude.{◌≡◌, ℕ, zero, suc, ◌^◌, ◌<◌, cond, ◌⊎◌, ◌↔◌, List, ◌==◌, ◌≢◌, bit_and, bit_or, slice_index}
use Rattle.std.proofs.Common.{sym, subst, inl, inr, ⊎_elim, arith}
use Rattle.std.specs.Int.Bits.{bit_xor, xor_add_and}
use Rattle.std.specs.Int.{bit_at}
use Rattle.std.proofs.lemmas.Nat.Bits.{bit_at_xor}
use Rattle.std.proofs.lemmas.Nat.{pow_pos}
use Rattle.std.proofs.lemmas.Bool.{cases_lt, cases_eq, eq-eqb, ne_eqb, cond-true, cond-false}
use Rattle.relations.specs.Masks.{Has, image_below, image, IsImage}
use Rattle.relations.proofs.Bits.{zero_has, has_below, has_cases, or_has, has_or_left, has_or_right, and_has, has_and, has_power, power_has, same_masks}

abbrev Among : List ℕ → ℕ → ℕ → ℕ → Type 0
Among rows set n p = (q : ℕ) × (q < n) × Has set q × Has (slice_index rows q) p

image_has : (rows : List ℕ) (set n p : ℕ) → Has (image_below rows set n) p → Among rows set n p
unfolding image_below
image_has rows set zero p h = absurd (zero_has p h)
image_has rows set (suc n) p h =
    ⊎_elim
    (λ x. let r = image_has rows set n p x in (r.0, (let l = r.1 in omega arith), r.2, r.3))
    (λ x.
    ⊎_elim
    (λ m. (n, omega arith, m, subst (λ y. Has y p) (cond-true _ (slice_index rows n) 0 (eq-eqb (bit_at set n) 1 m)) x))
    (λ m. absurd (zero_has p (subst (λ y. Has y p) (cond-false _ (slice_index rows n) 0 (ne_eqb (bit_at set n) 1 m)) x)))
    (has_cases set n))
    (or_has (image_below rows set n) (cond ((bit_at set n) == 1) (slice_index rows n) 0) p h)

has_image : (rows : List ℕ) (set n p : ℕ) → Among rows set n p → Has (image_below rows set n) p
unfolding image_below
has_image rows set zero p a = absurd (let l = a.1 in omega arith)
has_image rows set (suc n) p a =
    ⊎_elim
    (λ lt. has_or_left (image_below rows set n) _ p (has_image rows set n p (a.0, lt, a.2, a.3)))
    (λ le.
    let e : a.0 ≡ n = (let l = a.1 in omega arith) in
    has_or_right (image_below rows set n) _ p
    (subst (λ y. Has y p) (sym (cond-true ((bit_at set n) == 1) (slice_index rows n) 0 (eq-eqb (bit_at set n) 1 (subst (λ x. Has set x) e a.2))))
    (subst (λ x. Has (slice_index rows x) p) e a.3)))
    (cases_lt a.0 n)

pub image_members : (rows : List ℕ) (set : ℕ) → IsImage rows set (image rows set)
unfolding image
image_members rows set p = (image_has rows set 64 p, has_image rows set 64 p)

pub image_by : (rows : List ℕ) (set r : ℕ) → r ≡ image rows set → IsImage rows set r
image_by rows set r e = subst (IsImage rows set) (sym e) (image_members rows set)

-- a set without one of its members

off_has : (n q k : ℕ) → Has n q → Has (bit_xor n (2 ^ q)) k → Has n k × (k ≢ q)
off_has n q k member h =
    let e = bit_at_xor n (2 ^ q) k in
    ⊎_elim
    (λ same. absurd (let x : Has n k = subst (Has n) (sym same) member in let y : Has (2 ^ q) k = subst (Has (2 ^ q)) (sym same) (has_power q) in omega arith))
    (λ ne. (let y : Has (2 ^ q) k → ⊥ = λ z. ne (power_has q k z) in omega arith, ne))
    (cases_eq k q)

has_off : (n q k : ℕ) → Has n k → (k ≢ q) → Has (bit_xor n (2 ^ q)) k
has_off n q k h ne = let e = bit_at_xor n (2 ^ q) k in let y : Has (2 ^ q) k → ⊥ = λ z. ne (power_has q k z) in omega arith

lowest_off : (n q : ℕ) → Has n q → bit_xor n (2 ^ q) < n
lowest_off n q member =
    let only : bit_and n (2 ^ q) ≡ 2 ^ q = same_masks (bit_and n (2 ^ q)) (2 ^ q) (λ k. (λ h. (and_has n (2 ^ q) k h).1, λ h. has_and n (2 ^ q) k (subst (Has n) (sym (power_has q k h)) member) h)) in
    omega (arith, xor_add_and n (2 ^ q), pow_pos q)

-- what is united, and what is left to unite

pub record Left (rows : List ℕ) (set rest all : ℕ) : Type 0 where
  pub small : rest < 2 ^ 64
  pub sum : (p : ℕ) → (Has all p ⊎ Has (image rows rest) p) ↔ Has (image rows set) p

pub left_all : (rows : List ℕ) (set rest all : ℕ) → rest ≡ 0 → Left rows set rest all → all ≡ image rows set
left_all rows set rest all none left =
    same_masks all (image rows set)
    (λ p. (
      λ h. (left.sum p).0 (inl h),
      λ h. ⊎_elim (λ x. x) (λ x. let (q, lt, m, r) = (image_members rows rest p).0 x in absurd (zero_has q (subst (λ y. Has y q) none m))) ((left.sum p).1 h),
    ))

pub left_more : (rows : List ℕ) (set rest all q : ℕ) → Has rest q → Left rows set rest all → Left rows set (bit_xor rest (2 ^ q)) (bit_or all (slice_index rows q)) × (bit_xor rest (2 ^ q) < rest)
left_more rows set rest all q member left = (
  record {
    small = let s = left.small in let o = lowest_off rest q member in omega arith;
    sum = λ p. (
      ⊎_elim
          (λ h. ⊎_elim (λ x. (left.sum p).0 (inl x)) (λ x. (left.sum p).0 (inr ((image_members rows rest p).1 (q, low, member, x)))) (or_has all (slice_index rows q) p h))
          (λ h. let (k, lt, m, r) = (image_members rows (bit_xor rest (2 ^ q)) p).0 h in (left.sum p).0 (inr ((image_members rows rest p).1 (k, lt, (off_has rest q k member m).0, r)))),
      λ h.
          ⊎_elim
          (λ x. inl (has_or_left all (slice_index rows q) p x))
          (λ x.
          let (k, lt, m, r) = (image_members rows rest p).0 x in
          ⊎_elim
          (λ same. inl (has_or_right all (slice_index rows q) p (subst (λ y. Has (slice_index rows y) p) same r)))
          (λ ne. inr ((image_members rows (bit_xor rest (2 ^ q)) p).1 (k, lt, has_off rest q k m ne, r)))
          (cases_eq k q))
          ((left.sum p).1 h),
    );
  },
  lowest_off rest q member,
)
  where
    low : q < 64
    low = has_below rest 64 q left.small member
