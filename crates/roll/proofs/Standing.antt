-- What a state stands for after a call. Assumes nothing.
use Rattle.std.proofs.Common.{◌≡◌, ℕ, zero, suc, ◌*◌, ◌^◌, ◌≤◌, true, List, [], ◌∷◌, ◌++◌, map, length, take, set, replicate, Some, None, Option, unwrap_or, sym, refl, ap, ◌∙◌, subst, ⊎_elim, arith, append-nil, length-set, drop_of_length-le}
use lib.ListN.{length-map}
use Rattle.std.specs.List.{refill}
use Rattle.std.proofs.ByRecursion.{All-set}
use Rattle.std.proofs.lemmas.List.{map-set, nil_from_length, take_all}
use Rattle.std.proofs.lemmas.Bool.{eq-eqb}
use Rattle.fault.specs.declared.Fault.{Fault}
use Rattle.fault.specs.declared.Refusal.TheVariants.{TableLength}
use Rattle.folding.specs.Cells.{cells}
use Rattle.folding.specs.Tallies.{tally}
use Rattle.folding.specs.Keeping.{half, Gathers}
use Rattle.folding.specs.Texts.{Bytes, AllBytes, together}
use Rattle.folding.proofs.Entries.{length_cells, half_cells}
use Rattle.roll.specs.Plain.{Plain, texts, whole, mark, marks}
use Rattle.roll.specs.Sizes.{sized}
use Rattle.roll.specs.Refusals.{Call, fault, unless, first, tables, refusal, marked}
use Rattle.roll.specs.Stands.{State, slots, Stands}
use Rattle.roll.specs.Calls.{Answer}
use Rattle.roll.specs.Steps.{fault_of, refusal_at, Always}
use Rattle.roll.proofs.Granting.{not_refused, refused_not_none}
use Rattle.roll.specs.declared.slot.Slot.TheVariants.{Empty}
use Rattle.roll.proofs.Sizing.{sized_cases}

module _ {L : Type 0} {leg : List ℕ → L} {s : State L} {p : Plain} (stands : Stands leg s p) where
  pub stands_size : length (slots s.roll) ≡ length p
  stands_size = ap length stands.held ∙ length-map p mark

  pub stands_sized : sized (length p) ≡ true
  stands_sized = subst (λ n. sized n ≡ true) stands_size s.roll.few

  pub stands_refusal : (c : Call) → refusal_at s c ≡ refusal (marks p) c (length s.legs) (length s.tallies)
  stands_refusal c = ap (λ x. refusal x c (length s.legs) (length s.tallies)) stands.held

  -- the lent tables are those of its slots
  pub stands_tables : tables (length (slots s.roll)) (length s.legs) (length s.tallies) ≡ None
  stands_tables =
      let same = length-map p (λ o. unwrap_or o []) in
      let size = stands_size in
      let legs : length s.legs ≡ 2 * length (slots s.roll) = let long = ap length stands.legs ∙ length_cells leg (texts p) in omega arith in
      let tallies : length s.tallies ≡ 2 * length (slots s.roll) = let long = ap length stands.tallies ∙ length_cells tally (texts p) in omega arith in
      (λ i. first (unless (eq-eqb _ _ legs i) (fault TableLength 0)) (unless (eq-eqb _ _ tallies i) (fault TableLength 1)))

  pub length_texts : length (texts p) ≡ length (slots s.roll)
  length_texts = length-map p _ ∙ sym stands_size

-- the leg of the joined text, which one look gives at a power of two, and the empty text's where there are no slots
pub stands_whole : {K : Type 0} (of : List ℕ → K) (all : List K) (p : Plain) (r : K) → sized (length p) ≡ true → AllBytes (texts p) → all ≡ cells of (texts p) → ((k : ℕ) → half all ≡ 2 ^ k → Gathers of all r) → (length all ≤ 1 → r ≡ of []) → r ≡ of (whole p)
stands_whole of all p r size bytes is gathers none =
    let same = length-map p (λ o. unwrap_or o []) in
    let long = ap length is ∙ length_cells of (texts p) in
    let halves = half_cells of (texts p) all is in
    ⊎_elim
    (λ z. none (omega arith) ∙ ap (λ ts. of (together ts)) (sym (nil_from_length (texts p) (same ∙ z))))
    (λ k. gathers k.exponent (halves ∙ same ∙ k.is) (texts p) bytes is)
    (sized_cases (length p) size)

-- one mark written through the vector's slice
pub mark_written : {X : Type 0} (xs ys : List X) (i : ℕ) (a b : X) → ys ≡ xs → a ≡ b → refill (length xs) xs (set ys i a) ≡ set xs i b
mark_written xs ys i a b same new =
    let long : length (set ys i a) ≡ length xs = length-set ys i a ∙ ap length same in
    ap (λ rest. take (length xs) (set ys i a ++ rest)) (drop_of_length-le xs (omega arith))
    ∙ ap (take (length xs)) (append-nil (set ys i a))
    ∙ take_all (length xs) (set ys i a) (omega arith)
    ∙ ap (λ l. set l i a) same
    ∙ ap (set xs i) new

-- one slot's record is set, and its text replaced in both tables
pub stands_set : {L : Type 0} (leg : List ℕ → L) (s is : State L) (p : Plain) → Stands leg s p → (n : ℕ) (o : Option (List ℕ)) → Bytes (unwrap_or o []) → slots is.roll ≡ set (slots s.roll) n (mark o) → is.legs ≡ cells leg (set (texts p) n (unwrap_or o [])) → is.tallies ≡ cells tally (set (texts p) n (unwrap_or o [])) → Stands leg is (set p n o)
stands_set leg s is p stands n o bytes held legs tallies =
    let new : texts (set p n o) ≡ set (texts p) n (unwrap_or o []) = map-set (λ o. unwrap_or o []) p n o in
    record {
      held = held ∙ ap (λ l. set l n (mark o)) stands.held ∙ sym (map-set mark p n o);
      bytes = subst AllBytes (sym new) (All-set Bytes (texts p) n (unwrap_or o []) bytes stands.bytes);
      legs = legs ∙ ap (cells leg) (sym new);
      tallies = tallies ∙ ap (cells tally) (sym new);
    }

-- empty slots
pub stands_empty : {L : Type 0} (leg : List ℕ → L) (is : State L) (n : ℕ) → slots is.roll ≡ replicate n Empty → is.legs ≡ cells leg (replicate n []) → is.tallies ≡ cells tally (replicate n []) → Stands leg is (replicate n None)
stands_empty leg is n held legs tallies =
    let none : texts (replicate n None) ≡ replicate n [] = map_replicate (λ o. unwrap_or o []) n None in
    record {
      held = held ∙ sym (map_replicate mark n None);
      bytes = subst AllBytes (sym none) (all_empty n);
      legs = legs ∙ ap (cells leg) (sym none);
      tallies = tallies ∙ ap (cells tally) (sym none);
    }
  where
    map_replicate : {X Y : Type 0} (f : X → Y) (k : ℕ) (x : X) → map f (replicate k x) ≡ replicate k (f x)
    map_replicate f zero x = refl
    map_replicate f (suc k) x = ap (λ l. f x ∷ l) (map_replicate f k x)

    all_empty : (k : ℕ) → AllBytes (replicate k [])
    all_empty zero = tt
    all_empty (suc k) = (tt, all_empty k)

-- a granted call refuses nothing
pub grants : {L : Type 0} {was is : State L} {c : Call} (a : Answer) → fault_of a ≡ None → refusal_at was c ≡ None → slots is.roll ≡ marked (slots was.roll) c → Always was c a is
grants {was = was} {is = is} a free which marks = record {
  roll = record { which = which ∙ sym free; same = λ f e. absurd {A = is.roll ≡ was.roll} (not_refused a f free e); marks = λ granted. marks };
  tables = λ f e. absurd (not_refused a f free e);
}

-- a question changes nothing
pub asks : {L : Type 0} (s : State L) (c : Call) (a : Answer) → refusal_at s c ≡ fault_of a → slots s.roll ≡ marked (slots s.roll) c → Always s c a s
asks s c a which marks = record {
  roll = record { which = which; same = λ f e. refl; marks = λ granted. marks };
  tables = λ f e. (refl, refl);
}

-- a refused call leaves everything as it was
pub refuses : {L : Type 0} (s : State L) (c : Call) (a : Answer) (f : Fault) → fault_of a ≡ Some f → refusal_at s c ≡ Some f → Always s c a s
refuses s c a f says which = record {
  roll = record { which = which ∙ sym says; same = λ f e. refl; marks = λ granted. absurd (refused_not_none _ f which granted) };
  tables = λ f e. (refl, refl);
}
