-- A roll that is filled with the strips of a text, one of which is then filed anew. Assumes nothing.
use Rattle.std.proofs.Common.{◌≡◌, ℕ, zero, suc, ◌+◌, ◌-◌, ◌<◌, ◌≤◌, Bool, List, [], ◌∷◌, ◌++◌, map, length, take, drop, set, replicate, Some, None, Ok, Err, Result, Decides, sym, refl, ap, ◌∙◌, subst, append_assoc, append-nil, arith}
use lib.ListN.{length-map}
use Rattle.std.proofs.Math.Seq.{set-set}
use Rattle.std.proofs.lemmas.List.{map-set}
use Rattle.fault.specs.declared.Fault.{Fault}
use Rattle.fault.specs.declared.Refusal.TheVariants.{NoSuchSlot}
use Rattle.folding.proofs.Texts.{bytes_together}
use Rattle.folding.specs.Texts.{Bytes, together}
use Rattle.bench_calls.specs.Answers.{in_strips}
use Rattle.bench_calls.specs.Rolls.{Corrects}
use Rattle.roll.specs.Calls.{judged}
use Rattle.roll.specs.Plain.{Plain, whole}
use Rattle.roll.specs.Refusals.{fault, verdict}
use Rattle.roll.specs.Stands.{State, Stands}
use Rattle.roll.specs.Steps.{Does, heard}
use Rattle.roll.proofs.Granting.{refused_not_none}
use Rattle.roll.proofs.Standing.{stands_tables}
use Rattle.roll.proofs.Filling.{held, whole_held, Front, front_none, front_size, front_more}

pub whole_all : (ts : List (List ℕ)) → whole (map Some ts) ≡ together ts
whole_all ts = ap whole (sym (append-nil (map Some ts))) ∙ whole_held ts 0

strips_more : (n : ℕ) (w : List ℕ) → in_strips (suc n) w ≡ take 8000 w ∷ in_strips n (drop 8000 w)
unfolding in_strips
strips_more n w = refl

strips_none : (w : List ℕ) → in_strips 0 w ≡ []
unfolding in_strips
strips_none w = refl

-- the first n strips of the text are filed, and `rest` is to come
pub record Along {L : Type 0} (leg : List ℕ → L) (s : State L) (text rest : List ℕ) (n : ℕ) : Type 0 where
  pub strips : List (List ℕ)
  pub left : ℕ
  pub front : Front leg s strips n left
  pub cut : strips ++ in_strips left rest ≡ in_strips 128 text

module _ {L : Type 0} (leg : List ℕ → L) where
  pub along_none : (s : State L) (text : List ℕ) → Stands leg s (replicate 128 None) → Along leg s text text 0
  along_none s text stands = record { strips = []; left = 128; front = front_none leg s stands; cut = refl }

  pub along_all : (s : State L) (text rest : List ℕ) → Along leg s text rest 128 → Stands leg s (map Some (in_strips 128 text))
  along_all s text rest along =
      let slots = along.front.slots in
      let none : along.left ≡ 0 = omega arith in
      let all : along.strips ≡ in_strips 128 text = sym (append-nil along.strips) ∙ ap (λ l. along.strips ++ l) (sym (strips_none rest)) ∙ ap (λ k. along.strips ++ in_strips k rest) (sym none) ∙ along.cut in
      subst (Stands leg s) (ap (λ k. held along.strips k) none ∙ append-nil (map Some along.strips) ∙ ap (λ l. map Some l) all) along.front.stands

  module _ (was : State L) (text rest : List ℕ) (n : ℕ) (along : Along leg was text rest n) where
    pub along_size : length (held along.strips along.left) ≡ 128
    along_size = front_size leg was along.strips n along.left along.front

    pub along_more : (is : State L) → n < 128 → Stands leg is (set (held along.strips along.left) n (Some (take 8000 rest))) → Along leg is text (drop 8000 rest) (n + 1)
    along_more is in' stands =
        let w = take 8000 rest in
        let k = along.left - 1 in
        let slots = along.front.slots in
        let left : along.left ≡ suc k = omega arith in
        record {
          strips = along.strips ++ w ∷ [];
          left = along.left - 1;
          front = front_more leg was is along.strips n along.left w along.front in' stands;
          cut = append_assoc along.strips (w ∷ []) (in_strips k (drop 8000 rest)) ∙ ap (λ l. along.strips ++ l) (sym (strips_more k rest)) ∙ ap (λ m. along.strips ++ in_strips m rest) (sym left) ∙ along.cut;
        }

-- the verdict of a roll that stands for p, which is not refused
pub verdict_of : {L : Type 0} (leg : List ℕ → L) (M : List ℕ → Type 0) (s : State L) (p : Plain) → Stands leg s p → (r : Result Bool Fault) → Does leg M s verdict (heard judged r) s → (b : Bool) × (r ≡ Ok b) × Decides b (M (whole p))
verdict_of leg M s p stands (Ok b) does =
    let gives = (does.keeps p stands (stands_tables stands)).0 in
    (b, refl, subst (λ x. Decides x (M (whole p))) (same gives.0 b (sym gives.1)) gives.2)
  where
    same : (x y : Bool) → judged x ≡ judged y → x ≡ y
    same x y e = cc
verdict_of leg M s p stands (Err f) does = absurd (refused_not_none _ f does.always.roll.which (stands_tables stands))

length_strips : (n : ℕ) (w : List ℕ) → length (in_strips n w) ≡ n
unfolding in_strips
length_strips zero w = refl
length_strips (suc n) w = ap suc (length_strips n (drop 8000 w))

-- the strips of a text, of which that of the slot s is v in its place
abbrev pub mended : List ℕ → ℕ → List ℕ → List (List ℕ)
mended text s v = set (in_strips 128 text) s (take 8000 v)

pub bytes_mended : {L : Type 0} (leg : List ℕ → L) (text : List ℕ) (s : ℕ) (v : List ℕ) (is : State L) → Stands leg is (map Some (mended text s v)) → Bytes (together (mended text s v))
bytes_mended leg text s v is stands = subst Bytes (whole_all (mended text s v)) (bytes_together _ stands.bytes)

module _ {L : Type 0} (leg : List ℕ → L) (M : List ℕ → Type 0) (text : List ℕ) (s : ℕ) (v : List ℕ) where
  -- however the slot was filled before
  put_in : (ts : List (List ℕ)) (b : Bool) (is : State L) → set ts s (take 8000 v) ≡ mended text s v → Corrects leg M (map Some ts) s (take 8000 v) (Ok b) is → Stands leg is (map Some (mended text s v)) × Decides b (M (together (mended text s v)))
  put_in ts b is same goes =
      let plain = sym (map-set Some ts s (take 8000 v)) ∙ ap (λ l. map Some l) same in
      let both = subst (λ p. Stands leg is p × Decides b (M (whole p))) plain (goes.1, goes.2) in
      (both.0, subst (λ w. Decides b (M w)) (whole_all (mended text s v)) both.1)

  pub first : (b : Bool) (is : State L) → Corrects leg M (map Some (in_strips 128 text)) s (take 8000 v) (Ok b) is → (s < 128) × Stands leg is (map Some (mended text s v)) × Decides b (M (together (mended text s v)))
  first b is goes =
      let put = put_in (in_strips 128 text) b is refl goes in
      (subst (λ n. s < n) (length-map (in_strips 128 text) Some ∙ length_strips 128 text) goes.0, put.0, put.1)

  pub again : (b : Bool) (is : State L) → Corrects leg M (map Some (mended text s v)) s (take 8000 v) (Ok b) is → Stands leg is (map Some (mended text s v)) × Decides b (M (together (mended text s v)))
  again b is goes = put_in (mended text s v) b is (set-set (in_strips 128 text) s (take 8000 v) (take 8000 v)) goes

  pub no_such : (f : Fault) (is : State L) → Corrects leg M (map Some (in_strips 128 text)) s (take 8000 v) (Err f) is → (128 ≤ s) × (f ≡ fault NoSuchSlot s)
  no_such f is goes = (subst (λ n. n ≤ s) (length-map (in_strips 128 text) Some ∙ length_strips 128 text) goes.0, goes.1)
