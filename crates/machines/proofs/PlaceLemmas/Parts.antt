-- The parts of a machine, put together: what represents two expressions represents the one that is made of them. Assumes nothing.
use Rattle.std.proofs.Common.{◌≡◌, ℕ, ◌+◌, ◌≤◌, min, List, get_or, refl, ap, ◌∙◌, subst, arith}
use mathlib.Core.Logic.{∥∥₁_map}
use Rattle.notation.specs.Expressions.{one, empty, seq, alt, star, opt, Regex, Symbol, TakesSome}
use Rattle.notation.specs.Meaning.{Means}
use Rattle.notation.specs.Places.{places}
use Rattle.machines.specs.declared.place.tables.Tables.{Tables}
use Rattle.machines.specs.Place.Operations.{TablesBy, Later, Then, Either, Star, Optional}
use Rattle.machines.specs.Place.Fragments.{Represents, Part}
use Rattle.machines.specs.Place.Letters.{LettersOf, SomeLetters}
use Rattle.relations.specs.Masks.{Has}
use Rattle.machines.specs.Place.Making.{Changes, Combines}
use Rattle.machines.specs.Place.Tables.{TablesOf, Made}
use Rattle.machines.specs.Soundness.{Sane}
use Rattle.machines.specs.Place.Spellings.{Place, spread, Spelling, SpellingFrom}
use Rattle.machines.proofs.PlaceLemmas.Later.{later_tables}
use Rattle.machines.proofs.PlaceLemmas.Either.{either_tables}
use Rattle.machines.proofs.PlaceLemmas.Optional.{optional_tables}
use Rattle.machines.proofs.PlaceLemmas.Smallest.{nothing_tables, place_tables}
use Rattle.machines.proofs.PlaceLemmas.Star.{star_tables}
use Rattle.machines.proofs.PlaceLemmas.Then.{then_tables}
use Rattle.machines.proofs.PlaceLemmas.Moving.{spread_moves}
use Rattle.machines.specs.Place.Shown.Spread.{spread_linear}
use Rattle.machines.proofs.PlaceLemmas.Tabling.{TablesFor, of_for, for_of}

pub nothing_part : (t : Tables) → TablesBy t (λ q p. ⊥) (λ c p. ⊥) (λ p. p ≡ 0) → Represents empty t 0
nothing_part t by = record { sane = tt; count = refl; tables = λ few. of_for empty t few (nothing_tables t by) }

-- one place, by the bytes that it takes
pub place_part : (s : Symbol) (takes : List ℕ) (t : Tables) → TakesSome s → LettersOf s takes → TablesBy t (λ q p. (q ≡ 0) × (p ≡ 1)) (λ c p. Has (get_or takes c 0) p) (λ p. p ≡ 1) → Represents (one s) t 1
place_part s takes t some letters by = record {
  sane = some;
  count = refl;
  tables = λ few.
      of_for (one s) t few
      (place_tables s t
      (record {
        rows = by.rows;
        takes = λ c p lt. (λ h. (letters c p lt).0 ((by.takes c p lt).0 h), λ h. (by.takes c p lt).1 ((letters c p lt).1 h));
        accepts = by.accepts;
      }));
}

pub place_is_part : (takes : List ℕ) (t : Tables) → SomeLetters takes → TablesBy t (λ q p. (q ≡ 0) × (p ≡ 1)) (λ c p. Has (get_or takes c 0) p) (λ p. p ≡ 1) → Part t 1
place_is_part takes t some by = ∥∥₁_map some (λ x. (one x.0, place_part x.0 takes t x.1 x.2 by))

-- two parts, the second moved behind the first

module _ (e f : Regex) (a b b' r : Tables) (m n : ℕ) (x : Represents e a m) (y : Represents f b n) (room : m + n ≤ 63) (moved : Later m b b') where
  first_count : m ≡ places e
  first_count = let z = x.count in omega arith

  second_count : n ≡ places f
  second_count = let z = y.count in omega arith

  first_for : TablesFor (Spelling e) a
  first_for = for_of e a (x.tables (let z = first_count in omega arith))

  second_for : TablesFor (SpellingFrom (1 + places e) f) b'
  second_for =
      let c = first_count in
      let d = second_count in
      subst (λ k. TablesFor (SpellingFrom (1 + k) f) b') c
      (later_tables m 1 (1 + places f) (omega arith) (omega arith) (Spelling f) (SpellingFrom (1 + m) f) (spread_moves m f 1) b b'
      (spread_linear TakesSome f y.sane 1) (for_of f b (y.tables (omega arith))) moved)

  pub then_part : Then a b' r → Represents (seq e f) r (m + n)
  then_part by =
      let c = first_count in
      let d = second_count in
      record {
        sane = (x.sane, y.sane);
        count = omega arith;
        tables = λ few.
            of_for (seq e f) r few
            (then_tables (Spelling e) (SpellingFrom (1 + places e) f) a b' r first_for second_for
            (spread_linear TakesSome e x.sane 1).some (spread_linear TakesSome f y.sane (1 + places e)).some by);
      }

  pub either_part : Either a b' r → Represents (alt e f) r (m + n)
  either_part by =
      let c = first_count in
      let d = second_count in
      record {
        sane = (x.sane, y.sane);
        count = omega arith;
        tables = λ few. of_for (alt e f) r few (either_tables (Spelling e) (SpellingFrom (1 + places e) f) a b' r first_for second_for by);
      }

-- one part

pub star_part : (e : Regex) (a r : Tables) (n : ℕ) → Represents e a n → Star a r → Represents (star e) r n
star_part e a r n x by = record {
  sane = x.sane;
  count = x.count;
  tables = λ few. of_for (star e) r few (star_tables (Spelling e) a r (for_of e a (x.tables few)) by);
}

pub optional_part : (e : Regex) (a r : Tables) (n : ℕ) → Represents e a n → Optional a r → Represents (opt e) r n
optional_part e a r n x by = record {
  sane = x.sane;
  count = x.count;
  tables = λ few. of_for (opt e) r few (optional_tables (Spelling e) a r (for_of e a (x.tables few)) by);
}

-- another way to write the same places
pub same_part : (e e' : Regex) (t : Tables) (n : ℕ) → Sane e' → places e ≡ places e' → spread 1 e ≡ spread 1 e' → Represents e t n → Represents e' t n
same_part e e' t n sane same written x = record {
  sane = sane;
  count = x.count ∙ ap (λ k. min k 64) same;
  tables = λ few. of_for e' t few (subst (λ w. TablesFor (Means {S = Place Symbol} {A = Place Symbol} (λ p q. p ≡ q) w) t) written (for_of e t (x.tables (omega arith))));
}

-- a part with at most 63 places makes a machine

pub few_tables : (e : Regex) (t : Tables) (n : ℕ) → n ≤ 63 → Represents e t n → TablesOf e t
few_tables e t n le x = x.tables (let c = x.count in omega arith)

pub part_made : (t : Tables) (n : ℕ) → n ≤ 63 → Part t n → Made t
part_made t n le part = ∥∥₁_map part (λ x. (x.0, x.1.sane, few_tables x.0 t n le x.1))

-- what operations make, from references to the tables too

pub then_combines : (by : Tables → Tables → Tables → Type 0) → ((a b r : Tables) → by a b r → (x : Tables) × (y : Tables) × Then x y r × (x ≡ a) × (y ≡ b)) → Combines seq by
then_combines by is = record {
  sane = λ e f x y. (x, y);
  places = λ e f. refl;
  tables = λ e f a b moved r m n x y room behind h.
      let (a', moved', made, first, second) = is a moved r h in
      then_part e f a b moved r m n x y room behind (subst (λ z. Then z moved r) first (subst (λ z. Then a' z r) second made));
}

pub either_combines : (by : Tables → Tables → Tables → Type 0) → ((a b r : Tables) → by a b r → (x : Tables) × (y : Tables) × Either x y r × (x ≡ a) × (y ≡ b)) → Combines alt by
either_combines by is = record {
  sane = λ e f x y. (x, y);
  places = λ e f. refl;
  tables = λ e f a b moved r m n x y room behind h.
      let (a', moved', made, first, second) = is a moved r h in
      either_part e f a b moved r m n x y room behind (subst (λ z. Either z moved r) first (subst (λ z. Either a' z r) second made));
}

pub star_changes : (by : Tables → Tables → Type 0) → ((a r : Tables) → by a r → (x : Tables) × Star x r × (x ≡ a)) → Changes star by
star_changes by is = record {
  sane = λ e x. x;
  places = λ e. refl;
  tables = λ e a r n x h. let (a', made, same) = is a r h in star_part e a r n x (subst (λ z. Star z r) same made);
}

pub optional_changes : (by : Tables → Tables → Type 0) → ((a r : Tables) → by a r → (x : Tables) × Optional x r × (x ≡ a)) → Changes opt by
optional_changes by is = record {
  sane = λ e x. x;
  places = λ e. refl;
  tables = λ e a r n x h. let (a', made, same) = is a r h in optional_part e a r n x (subst (λ z. Optional z r) same made);
}
