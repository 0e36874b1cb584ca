-- Masks that are combined, by the sets that they are. Assumes nothing.
use Rattle.std.proofs.Common.{◌≡◌, ℕ, Bool, ◌⊎◌, Decides, sym, subst, inl, inr, ⊎_elim}
use lib.Bits.{bit_or}
use Rattle.relations.specs.Masks.{Has, SetOf, Only}
use Rattle.relations.proofs.Bits.{or_members}

pub either_members : {P Q : ℕ → Type 0} (a b : ℕ) → SetOf a P → SetOf b Q → SetOf (bit_or a b) (λ p. P p ⊎ Q p)
either_members a b x y = record {
  at = λ p. (
    λ h. ⊎_elim (λ z. inl ((x.at p).0 z)) (λ z. inr ((y.at p).0 z)) ((or_members a b p).0 h),
    λ h. (or_members a b p).1 (⊎_elim (λ z. inl ((x.at p).1 z)) (λ z. inr ((y.at p).1 z)) h),
  );
}

pub own_members : (a : ℕ) → SetOf a (Has a)
own_members a = record { at = λ p. (λ h. h, λ h. h) }

pub same_members : (a b : ℕ) → a ≡ b → SetOf a (Has b)
same_members a b e = subst (λ x. SetOf x (Has b)) (sym e) (own_members b)

-- the set if a test passes
pub only_members : {P : Type 0} {Q : ℕ → Type 0} (r set : ℕ) (when : Bool) → SetOf r (Only when set) → Decides when P → SetOf set Q → SetOf r (λ p. P × Q p)
only_members r set when is d q = record {
  at = λ p. (
    λ h. let x = (is.at p).0 h in (d.0 x.0, (q.at p).0 x.1),
    λ h. (is.at p).1 (d.1 h.0, (q.at p).1 h.1),
  );
}

pub swapped : {P : Type 0} {Q : ℕ → Type 0} (r : ℕ) → SetOf r (λ p. P × Q p) → SetOf r (λ p. Q p × P)
swapped r x = record { at = λ p. (λ h. let y = (x.at p).0 h in (y.1, y.0), λ h. (x.at p).1 (h.1, h.0)) }
