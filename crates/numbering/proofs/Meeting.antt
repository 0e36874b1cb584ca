-- A search over plain lists: how it begins, how it meets one point more, and that it ends with the numbering. Assumes nothing.
use Rattle.std.proofs.Common.{◌≡◌, ℕ, ◌+◌, ◌*◌, ◌/◌, ◌%◌, ◌<◌, ◌≤◌, List, [], ◌∷◌, ◌++◌, length, Contains, Some, refl, sym, ap, ◌∙◌, subst, ⊎_elim, inl, inr, arith}
use Rattle.std.specs.List.{slice_get}
use Rattle.std.proofs.lemmas.Bool.{cases_lt}
use Rattle.std.proofs.lemmas.List.{length_push}
use Rattle.std.proofs.lemmas.Option.{none-some, same_Some, slice_get_within}
use Rattle.numbering.specs.Filling.{Moves}
use Rattle.numbering.specs.Numbering.{Leads, Numbering}
use Rattle.numbering.specs.Searching.{Sofar, Meets}
use Rattle.numbering.proofs.Listing.{within, contains_at, push_old, push_new, push_cases}

-- none stands there twice
abbrev pub Once : {P : Type 0} → List P → Type 0
Once {P} ps = (i j : ℕ) (p : P) → slice_get ps i ≡ Some p → slice_get ps j ≡ Some p → i ≡ j

-- to each but the first an earlier one leads
abbrev pub Led : {P : Type 0} → (P → ℕ → P) → List P → Type 0
Led next ps = (k : ℕ) → 1 ≤ k → k < length ps → (s : ℕ) × (c : ℕ) × (s < k) × Leads next ps s c k

-- what stands in ps stands at the same number in qs
abbrev Begins : {P : Type 0} → List P → List P → Type 0
Begins {P} ps qs = (i : ℕ) (p : P) → slice_get ps i ≡ Some p → slice_get qs i ≡ Some p

leads_on : {P : Type 0} (next : P → ℕ → P) (ps qs : List P) (s c k : ℕ) → Begins ps qs → Leads next ps s c k → Leads next qs s c k
leads_on next ps qs s c k more leads = record {
  byte = leads.byte;
  point = leads.point;
  from = more s leads.point leads.from;
  to = more k (next leads.point c) leads.to;
}

one_lead : {P : Type 0} (next : P → ℕ → P) (ps : List P) (s c k k' : ℕ) → Once ps → Leads next ps s c k → Leads next ps s c k' → k ≡ k'
one_lead next ps s c k k' once leads leads' =
    let point : leads'.point ≡ leads.point = same_Some leads'.point leads.point (sym leads'.from ∙ leads.from) in
    once k k' (next leads.point c) leads.to (leads'.to ∙ ap (λ x. Some (next x c)) point)

once_push : {P : Type 0} (ps : List P) (y : P) → Once ps → (Contains ps y → ⊥) → Once (ps ++ (y ∷ []))
once_push ps y once new i j p here there =
    let stands = λ (k : ℕ) (at : slice_get ps k ≡ Some p) (is : p ≡ y). new (contains_at ps k y (at ∙ ap Some is)) in
    elim (push_cases ps y i p here) [
      | inl old ↦ elim (push_cases ps y j p there) [
        | inl old' ↦ once i j p old old'
        | inr last ↦ absurd (stands i old last.1)
      ]
      | inr last ↦ elim (push_cases ps y j p there) [
        | inl old' ↦ absurd (stands j old' last.1)
        | inr last' ↦ last.0 ∙ sym last'.0
      ]
    ]

pub first_met : {P : Type 0} (first : P) (next : P → ℕ → P) → Sofar first next (first ∷ []) []
first_met first next = record {
  begins = refl;
  once = λ i j p here there. omega (arith, slice_get_within (first ∷ []) i p here, slice_get_within (first ∷ []) j p there);
  within = omega arith;
  leads = λ i k at. absurd (none-some k at);
  met = λ k pos lt. absurd (omega arith);
  ordered = λ j k i pos lt at. absurd (none-some k at);
}

module _ {P : Type 0} (first : P) (next : P → ℕ → P) (ps : List P) (ms : List ℕ) where
  -- the points qs begin with ps, and the next move is to k, of which each earlier number and no later one is a point's
  moved : (qs : List P) (k : ℕ) → Sofar first next ps ms → length ms / 256 < length ps → Begins ps qs → length ps ≤ length qs → Once qs → Leads next qs (length ms / 256) (length ms % 256) k → k ≤ length ps → ((j : ℕ) → length ps ≤ j → j < length qs → j ≡ k) → Sofar first next qs (ms ++ (k ∷ []))
  moved qs k so_far row more grow once leads near last =
      let long : length (ms ++ (k ∷ [])) ≡ length ms + 1 = length_push ms k in
      record {
        begins = more 0 first so_far.begins;
        once = once;
        within = omega (arith, so_far.within);
        leads = λ i k' at. elim (push_cases ms k i k' at) as (λ _. Leads next qs (i / 256) (i % 256) k') [
          | inl old ↦ leads_on next ps qs (i / 256) (i % 256) k' more (so_far.leads i k' old)
          | inr new ↦ rw (new.0, new.1) leads
        ];
        met = λ k' pos lt. ⊎_elim
            (λ (old : k' < length ps). let m = so_far.met k' pos old in (m.0, push_old ms k m.0 k' m.1, m.2))
            (λ (new : length ps ≤ k'). (length ms, push_new ms k ∙ ap Some (sym (last k' new lt)), omega arith))
            (cases_lt k' (length ps));
        ordered = λ j k' i pos lt at. elim (push_cases ms k i k' at) as (λ _. (h : ℕ) × (h < i) × (slice_get (ms ++ (k ∷ [])) h ≡ Some j)) [
          | inl old ↦ let h = so_far.ordered j k' i pos lt old in (h.0, h.1, push_old ms k h.0 j h.2)
          | inr new ↦ let m = so_far.met j pos (omega arith) in (m.0, omega (arith, slice_get_within ms m.0 j m.1), push_old ms k m.0 j m.1)
        ];
      }

  pub meets_one : (qs : List P) (k : ℕ) (p : P) → Sofar first next ps ms → slice_get ps (length ms / 256) ≡ Some p → Meets ps (next p (length ms % 256)) k qs → Sofar first next qs (ms ++ (k ∷ []))
  meets_one qs k p so_far at meets =
      let row : length ms / 256 < length ps = slice_get_within ps _ p at in
      let byte : length ms % 256 < 256 = omega arith in
      let y = next p (length ms % 256) in
      ⊎_elim
      (λ (old : (slice_get ps k ≡ Some y) × (qs ≡ ps)).
      let near : k < length ps = slice_get_within ps k y old.0 in
      subst (λ (x : List P). Sofar first next x (ms ++ (k ∷ []))) (sym old.1)
      (moved ps k so_far row (λ i x here. here) (omega arith) so_far.once (record { byte = byte; point = p; from = at; to = old.0 }) (omega arith) (λ j past lt. absurd (omega arith))))
      (λ (new : (Contains ps y → ⊥) × (k ≡ length ps) × (qs ≡ ps ++ (y ∷ []))).
      let long : length (ps ++ (y ∷ [])) ≡ length ps + 1 = length_push ps y in
      let there : slice_get (ps ++ (y ∷ [])) k ≡ Some y = rw new.1 (push_new ps y) in
      subst (λ (x : List P). Sofar first next x (ms ++ (k ∷ []))) (sym new.2)
      (moved (ps ++ (y ∷ [])) k so_far row (push_old ps y) (omega arith) (once_push ps y so_far.once new.0) (record { byte = byte; point = p; from = push_old ps y _ p at; to = there }) (omega arith) (λ j past lt. omega arith)))
      meets

  pub so_far_led : Sofar first next ps ms → Led next ps
  so_far_led so_far k pos lt = let m = so_far.met k pos lt in (m.0 / 256, m.0 % 256, m.2, so_far.leads m.0 k m.1)

  -- where the byte c leads to from point s
  pub moves_at : Sofar first next ps ms → length ms ≡ 256 * length ps → Moves next ps ms
  moves_at so_far all s c in' byte =
      let t = within ms (256 * s + c) (omega arith) in
      let which : (256 * s + c) / 256 ≡ s = omega arith in
      let what : (256 * s + c) % 256 ≡ c = omega arith in
      (t.0, t.1, subst (λ (r : ℕ). Leads next ps r c t.0) which (subst (λ (b : ℕ). Leads next ps ((256 * s + c) / 256) b t.0) what (so_far.leads (256 * s + c) t.0 t.1)))

  pub numbers : Sofar first next ps ms → length ms ≡ 256 * length ps → Numbering first next ps
  numbers so_far all = record {
    begins = so_far.begins;
    once = so_far.once;
    closed = λ s c in' byte. let t = moves_at so_far all s c in' byte in (t.0, t.2);
    met = so_far_led so_far;
    ordered = λ j k s c pos lt leads.
        let t = moves_at so_far all s c (slice_get_within ps s leads.point leads.from) leads.byte in
        let same : t.0 ≡ k = one_lead next ps s c t.0 k so_far.once t.2 leads in
        let h = so_far.ordered j k (256 * s + c) pos lt (t.1 ∙ ap Some same) in
        (h.0 / 256, h.0 % 256, omega (arith, h.1), so_far.leads h.0 j h.2);
  }
