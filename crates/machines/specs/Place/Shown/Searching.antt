-- A text that leads from a state to acceptance can be found by trying: if there merely is one, here is one. Assumes nothing.
use Rattle.std.specs.Prelude.{ℕ, zero, suc, ◌<◌, Bool, false, ◌&&◌, ◌||◌, List, [], ◌∷◌, Decides, ◌==◌, nat_lt, slice_index, refl}
use Rattle.std.proofs.Math.Logic.{∥∥₁_map}
use Rattle.std.proofs.lemmas.Bool.Decides.{Decides-eqb, Decides-ltb, Decides-and, Decides-like, Decides-below_or}
use Rattle.folding.specs.Texts.{Bytes}
use Rattle.machines.specs.declared.place.tables.Tables.{Tables}
use Rattle.std.specs.Int.{bit_at}
use Rattle.relations.specs.Masks.{Has}
use Rattle.machines.specs.Place.Shown.Least.{found}
use Rattle.machines.specs.Place.Shown.Running.{LeadsBy, ReachesBy}

any_below : (ℕ → Bool) → ℕ → Bool
any_below test zero = false
any_below test (suc n) = test n || any_below test n

any_decides : (test : ℕ → Bool) (P : ℕ → Type 0) → ((k : ℕ) → Decides (test k) (P k)) → (n : ℕ) → Decides (any_below test n) ((k : ℕ) × (k < n) × P k)
unfolding any_below
any_decides test P each n = Decides-below_or test P (any_below test) each refl (λ m. refl) n

module _ (t : Tables) where
  -- acceptance is n bytes away from state q
  abbrev pub Away : ℕ → ℕ → Type 0
  Away zero q = Has t.accepts q
  Away (suc n) q = (p : ℕ) × (p < 64) × ((c : ℕ) × (c < 256) × (LeadsBy t q c p × Away n p))

  leads_test : ℕ → ℕ → ℕ → Bool
  leads_test q c p = nat_lt q 64 && (bit_at (slice_index t.follow q) p == 1 && bit_at (slice_index t.takes c) p == 1)

  leads_decides : (q c p : ℕ) → Decides (leads_test q c p) (LeadsBy t q c p)
  unfolding leads_test
  leads_decides q c p =
      Decides-like (leads_test q c p) (λ h. (h.0, h.1.0, h.1.1)) (λ h. (h.0, (h.1, h.2)))
      (Decides-and (nat_lt q 64) _ (Decides-ltb q 64) (Decides-and _ _ (Decides-eqb (bit_at (slice_index t.follow q) p) 1) (Decides-eqb (bit_at (slice_index t.takes c) p) 1)))

  away_test : ℕ → ℕ → Bool
  away_test zero q = bit_at t.accepts q == 1
  away_test (suc n) q = any_below (λ p. any_below (λ c. leads_test q c p && away_test n p) 256) 64

  away_decides : (n q : ℕ) → Decides (away_test n q) (Away n q)
  unfolding away_test
  away_decides zero q = Decides-eqb (bit_at t.accepts q) 1
  away_decides (suc n) q =
      any_decides (λ p. any_below (λ c. leads_test q c p && away_test n p) 256) (λ p. (c : ℕ) × (c < 256) × (LeadsBy t q c p × Away n p))
      (λ p. any_decides (λ c. leads_test q c p && away_test n p) (λ c. LeadsBy t q c p × Away n p) (λ c. Decides-and (leads_test q c p) (away_test n p) (leads_decides q c p) (away_decides n p)) 256) 64

  pub away_found : (q : ℕ) → ∥ ((n : ℕ) × Away n q) ∥₁ → (n : ℕ) × Away n q
  away_found q h =
      let x = found (λ n. away_test n q) (∥∥₁_map h (λ a. (a.0, (away_decides a.0 q).1 a.1))) in
      (x.0, (away_decides x.0 q).0 x.1)

  -- the bytes on the way
  pub away_text : (n q : ℕ) → Away n q → (v : List ℕ) × Bytes v × (p : ℕ) × ReachesBy t v q p × Has t.accepts p
  away_text zero q h = ([], tt, q, refl, h)
  away_text (suc n) q (p, low, (c, byte, (l, a))) =
      let x = away_text n p a in
      (c ∷ x.0, (byte, x.1), x.2, (p, l, x.3), x.4)
