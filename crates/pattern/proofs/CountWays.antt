-- The ways in which a counted repeat is read or refused, after its first count and after its second. Assumes nothing.
use Rattle.std.proofs.Common.{◌≡◌, ℕ, ◌+◌, ◌-◌, ◌<◌, ◌≤◌, false, leb, List, [], ◌∷◌, ◌++◌, length, get_or, take, drop, decimal, Result, Ok, Err, MatchResult, IsOk, sym, refl, ap, ◌∙◌, subst, ⊎_elim, append_assoc, arith, length-append, length-drop, take-append-drop}
use Rattle.std.specs.List.{AllByRecursion}
use Rattle.std.proofs.lemmas.Fmt.{decimal_digit}
use Rattle.std.proofs.ByRecursion.{All-append, All-get_or}
use Rattle.std.proofs.lemmas.List.{take_at, take_all, get_or_at, get_or_append_left}
use Rattle.std.proofs.lemmas.Bool.{cond-false, lt-leb, cases_lt}
use Rattle.fault.specs.declared.Fault.{Fault}
use Rattle.fault.specs.declared.Refusal.TheVariants.{BadlyWritten}
use Rattle.notation.specs.Expressions.{empty}
use Rattle.notation.specs.Grammar.{Counts, exactly, between}
use Rattle.notation.specs.Automaton.{state, in_count, awaiting, digits, CountKind, digit, comma, ended, other, no_count, least, most, count_can_go_on, count_next, of_count, opened, bad, outcome_of}
use Rattle.notation.specs.Refusals.{Stops, refused}
use Rattle.pattern.specs.Repeats.{NumberRead, NumberRefused, Braced, CountsRead, CountsStop, CountsRefused}
use Rattle.notation.proofs.Chars.{InCount, in_count_lem}
use Rattle.notation.proofs.CountRuns.{counts_run, decimal_two}
use Rattle.notation.proofs.Faults.{unread}
use Rattle.pattern.proofs.Slices.{drop_is, moves, stops_at, stopped}

-- after the first count only a brace or a comma goes on
first_stuck : (k : CountKind) (b n : ℕ) → InCount k b → (b ≡ 125 → ⊥) → (b ≡ 44 → ⊥) → ((j : ℕ) → k ≡ digit j → count_can_go_on 0 n j ≡ false) → count_next k (digits least n) ≡ no_count
first_stuck (digit j) b n is no_end no_comma stuck = cond-false _ _ _ (stuck j refl)
first_stuck comma b n is no_end no_comma stuck = absurd (no_comma is)
first_stuck ended b n is no_end no_comma stuck = absurd (no_end is)
first_stuck other b n is no_end no_comma stuck = refl

-- after the second only a brace, if the most is not below the least
second_stuck : (k : CountKind) (b m n : ℕ) → InCount k b → (b ≡ 125 → m ≤ n → ⊥) → ((j : ℕ) → k ≡ digit j → count_can_go_on m n j ≡ false) → count_next k (digits (most m) n) ≡ no_count
second_stuck (digit j) b m n is no_end stuck = cond-false _ _ _ (stuck j refl)
second_stuck comma b m n is no_end stuck = refl
second_stuck ended b m n is no_end stuck = cond-false (leb m n) _ _ (lt-leb m n (⊎_elim (λ h. h) (λ le. absurd (no_end is le)) (cases_lt n m)))
second_stuck other b m n is no_end stuck = refl

digits_low : (n : ℕ) → n ≤ 32 → AllByRecursion (λ b. b < 58) (decimal n)
digits_low n top =
    ⊎_elim (λ small. subst (AllByRecursion (λ b. b < 58)) (sym (decimal_digit n small)) (omega arith, tt))
    (λ two. subst (AllByRecursion (λ b. b < 58)) (sym (decimal_two n two (omega arith))) (omega arith, (omega arith, tt)))
    (cases_lt n 10)

-- counts are digits and a comma, and then a brace
ends_so : {w : List ℕ} {m n : ℕ} → Counts w m n → (u : List ℕ) × (w ≡ u ++ 125 ∷ []) × AllByRecursion (λ b. b < 58) u
ends_so (exactly {m} hi) = (decimal m, refl, digits_low m hi)
ends_so (between {m} {n} le hi) =
    (decimal m ++ 44 ∷ decimal n, sym (append_assoc (decimal m) (44 ∷ decimal n) (125 ∷ [])), All-append (λ b. b < 58) (decimal m) (44 ∷ decimal n) (digits_low m (omega arith)) (omega arith, digits_low n hi))

-- so counts that others begin are all of them
begin_all : {w u : List ℕ} {m n k l : ℕ} (rest : List ℕ) → Counts w m n → Counts u k l → w ≡ u ++ rest → u ≡ w
begin_all {w} {u} rest all first is =
    let (v, ends, low) = ends_so all in
    let (x, stops, _) = ends_so first in
    let brace : get_or w (length x) 0 ≡ 125 = ap (λ l. get_or l (length x) 0) (is ∙ ap (λ l. l ++ rest) stops ∙ append_assoc x (125 ∷ []) rest) ∙ get_or_at x 125 rest 0 (length x) refl in
    let long : length w ≤ length u =
    ⊎_elim
    (λ (lt : length x < length v). absurd (omega (arith, brace, ap (λ l. get_or l (length x) 0) ends, get_or_append_left v (125 ∷ []) 0 (length x) lt, All-get_or (λ b. b < 58) v (length x) 0 lt low)))
    (λ (le : length v ≤ length x). omega (arith, ap length ends, length-append v (125 ∷ []), ap length stops, length-append x (125 ∷ [])))
    (cases_lt (length x) (length v)) in
    sym (take_at u rest (length u) refl) ∙ ap (take (length u)) (sym is) ∙ take_all (length u) w long

-- counts end with a brace, so none stand where no brace was read
counts_none : (p : List ℕ) (at end : ℕ) (f : Fault) (u rest : List ℕ) → CountsStop p at f → f ≡ refused BadlyWritten end → drop at p ≡ u ++ rest → at + length u ≡ end → AllByRecursion (λ b. b < 58) u
    → (k m n : ℕ) → Counts (take k (drop at p)) m n → ⊥
counts_none p at end f u rest stop is begun long low k m n counts =
    let s = stop empty opened 0 [] in
    let left = drop k (drop at p) in
    let (v, ends, _) = ends_so counts in
    let parts : drop at p ≡ (v ++ 125 ∷ []) ++ left = sym (take-append-drop k (drop at p)) ∙ ap (λ l. l ++ left) ends in
    let over : outcome_of _ left ≡ bad (length p - f.place) = sym (ap (outcome_of _) (sym (take-append-drop k (drop at p))) ∙ counts_run empty opened 0 [] counts left) ∙ s.unread in
    let few = unread _ left _ over in
    let sizes : length p - at ≡ length v + 1 + length left = sym (length-drop at p) ∙ ap length parts ∙ length-append (v ++ 125 ∷ []) left ∙ ap (λ x. x + length left) (length-append v (125 ∷ [])) in
    let inside : length v < length u = omega (arith, s.within, ap (λ x. x.place) is) in
    let brace : get_or (drop at p) (length v) 0 ≡ 125 = ap (λ l. get_or l (length v) 0) (parts ∙ append_assoc v (125 ∷ []) left) ∙ get_or_at v 125 left 0 (length v) refl in
    let digit : get_or (drop at p) (length v) 0 ≡ get_or u (length v) 0 = ap (λ l. get_or l (length v) 0) begun ∙ get_or_append_left u rest 0 (length v) inside in
    omega (arith, All-get_or (λ b. b < 58) u (length v) 0 inside low)

module _ (p : List ℕ) (at : ℕ) where
  pub first_refused : (f : Fault) → NumberRefused p at 0 f → CountsRefused p at f
  first_refused f number =
      let stop : CountsStop p at f = λ e fr d ctx. number.stops least refl e fr d ctx in
      record { none = counts_none p at at f [] (drop at p) stop number.is refl (omega arith) tt; stops = stop }

  pub after_first : (m end : ℕ) (f : Fault) → NumberRead p at 0 m end → (end < length p → get_or p end 0 ≡ 125 → ⊥) → (end < length p → get_or p end 0 ≡ 44 → ⊥) → f ≡ refused BadlyWritten end → CountsRefused p at f
  after_first m end f num no_end no_comma is = record { none = counts_none p at end f (decimal m) (drop end p) stop is num.text num.long (digits_low m num.small); stops = stop }
    where
      stop : CountsStop p at f
      stop e fr d ctx =
          stopped p f end _ is num.within
          (num.runs least refl e fr d ctx
          ∙ stops_at p end _ num.within refl (λ lt. ap (λ n. of_count n e fr d ctx) (first_stuck _ _ m (in_count_lem (get_or p end 0)) (no_end lt) (no_comma lt) (λ j told. num.stuck j told lt))))

  pub one_count : (m end : ℕ) → NumberRead p at 0 m end → end < length p → get_or p end 0 ≡ 125 → CountsRead p at m m (end + 1)
  one_count m end num lt is = record {
    within = omega arith;
    words = decimal m ++ 125 ∷ [];
    counted = exactly num.small;
    long = simp length-append (omega (arith, num.long));
    part = num.text ∙ ap (λ l. decimal m ++ l) (drop_is p end 125 lt is) ∙ sym (append_assoc (decimal m) (125 ∷ []) _);
  }

  pub second_refused : (m end : ℕ) (f : Fault) → NumberRead p at 0 m end → end < length p → get_or p end 0 ≡ 44 → NumberRefused p (end + 1) m f → CountsRefused p at f
  second_refused m end f num lt is number = record { none = counts_none p at (end + 1) f (decimal m ++ 44 ∷ []) (drop (end + 1) p) stop number.is begun (omega (arith, num.long, length-append (decimal m) (44 ∷ []))) (All-append (λ b. b < 58) (decimal m) (44 ∷ []) (digits_low m num.small) (omega arith, tt)); stops = stop }
    where
      begun : drop at p ≡ (decimal m ++ 44 ∷ []) ++ drop (end + 1) p
      begun = num.text ∙ ap (λ l. decimal m ++ l) (drop_is p end 44 lt is) ∙ sym (append_assoc (decimal m) (44 ∷ []) _)

      stop : CountsStop p at f
      stop e fr d ctx =
          subst (Stops p f) (sym (num.runs least refl e fr d ctx ∙ moves p end 44 _ (state (in_count e (awaiting (most m))) fr d ctx) lt is refl)) (number.stops (most m) refl e fr d ctx)

  pub after_second : (m n mid end : ℕ) (f : Fault) → NumberRead p at 0 m mid → mid < length p → get_or p mid 0 ≡ 44 → NumberRead p (mid + 1) m n end
      → (end < length p → get_or p end 0 ≡ 125 → m ≤ n → ⊥) → f ≡ refused BadlyWritten end → CountsRefused p at f
  after_second m n mid end f num lt is last no_end fault = record { none = counts_none p at end f (decimal m ++ 44 ∷ decimal n) (drop end p) stop fault begun (omega (arith, num.long, last.long, length-append (decimal m) (44 ∷ decimal n))) (All-append (λ b. b < 58) (decimal m) (44 ∷ decimal n) (digits_low m num.small) (omega arith, digits_low n last.small)); stops = stop }
    where
      begun : drop at p ≡ (decimal m ++ 44 ∷ decimal n) ++ drop end p
      begun = num.text ∙ ap (λ l. decimal m ++ l) (drop_is p mid 44 lt is ∙ ap (λ l. 44 ∷ l) last.text) ∙ sym (append_assoc (decimal m) (44 ∷ decimal n) _)

      stop : CountsStop p at f
      stop e fr d ctx =
          stopped p f end _ fault last.within
          (num.runs least refl e fr d ctx
          ∙ moves p mid 44 _ (state (in_count e (awaiting (most m))) fr d ctx) lt is refl
          ∙ last.runs (most m) refl e fr d ctx
          ∙ stops_at p end _ last.within refl (λ lt. ap (λ n. of_count n e fr d ctx) (second_stuck _ _ m n (in_count_lem (get_or p end 0)) (no_end lt) (λ j told. last.stuck j told lt))))

  pub two_counts : (m n mid end : ℕ) → NumberRead p at 0 m mid → mid < length p → get_or p mid 0 ≡ 44 → NumberRead p (mid + 1) m n end → end < length p → get_or p end 0 ≡ 125 → m ≤ n → CountsRead p at m n (end + 1)
  two_counts m n mid end num lt is last inside ends le = record {
    within = omega arith;
    words = decimal m ++ 44 ∷ (decimal n ++ 125 ∷ []);
    counted = between le last.small;
    long = simp length-append (omega (arith, num.long, last.long, length-append (decimal n) (125 ∷ [])));
    part = num.text ∙ ap (λ l. decimal m ++ l) (drop_is p mid 44 lt is ∙ ap (λ l. 44 ∷ l) (last.text ∙ ap (λ l. decimal n ++ l) (drop_is p end 125 inside ends) ∙ sym (append_assoc (decimal n) (125 ∷ []) _))) ∙ sym (append_assoc (decimal m) (44 ∷ (decimal n ++ 125 ∷ [])) _);
  }

-- what was read of a counted repeat from its first byte on
pub braced_read : (t : List ℕ) (m n k l end : ℕ) → Braced t m n → CountsRead t 1 k l end → Braced t k l
braced_read t m n k l end (w, same, counts) read =
    (w, same, subst (λ u. Counts u k l) (begin_all (drop end t) counts read.counted (sym (ap (drop 1) same) ∙ read.part)) read.counted)

pub braced_ok : {T : Type 0} (t : List ℕ) (m n : ℕ) (r : Result T Fault) (P : T → Type 0) → Braced t m n → MatchResult r P (CountsRefused t 1) → IsOk r
braced_ok t m n (Ok x) P braced told = refl
braced_ok t m n (Err f) P (w, same, counts) refused =
    absurd (refused.none (length t) m n (subst (λ u. Counts u m n) (sym (take_all (length t) (drop 1 t) (simp length-drop (omega arith)) ∙ ap (drop 1) same)) counts))
