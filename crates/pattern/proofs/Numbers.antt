-- The ways in which a count is read or refused. Assumes nothing.
use Rattle.std.proofs.Common.{◌≡◌, ℕ, ◌+◌, ◌*◌, ◌/◌, ◌%◌, ◌<◌, ◌≤◌, Bool, true, false, cond, leb, List, [], ◌∷◌, ◌++◌, length, get_or, drop, decimal, sym, refl, ap, ◌∙◌, arith}
use Rattle.std.proofs.lemmas.Fmt.{decimal_digit}
use Rattle.std.proofs.lemmas.Bool.{and_parts, leb-true, lt-leb, and_right}
use Rattle.fault.specs.declared.Fault.{Fault}
use Rattle.fault.specs.declared.Refusal.TheVariants.{BadlyWritten}
use Rattle.notation.specs.Automaton.{state, in_count, awaiting, digits, CountKind, digit, comma, ended, other, no_count, counting, Stage, bound, count_can_begin, count_can_go_on, count_kind, count_next, of_count}
use Rattle.notation.specs.Refusals.{refused}
use Rattle.pattern.specs.Repeats.{NumberRead, NumberRefused}
use Rattle.notation.proofs.Chars.{digit_kind}
use Rattle.notation.proofs.CountRuns.{decimal_two}
use Rattle.pattern.proofs.Slices.{drop_is, moves, stops_at, stopped}

awaits_digit : (k : CountKind) (s : Stage) → ((n : ℕ) → k ≡ digit n → ⊥) → count_next k (awaiting s) ≡ no_count
awaits_digit (digit n) s no_digit = absurd (no_digit n refl)
awaits_digit comma s no_digit = refl
awaits_digit ended s no_digit = refl
awaits_digit other s no_digit = refl

begin_is : (b k low : ℕ) (s : Stage) (r : Bool) → bound s ≡ low → b ≡ 48 + k → k < 10 → count_can_begin low k ≡ r → count_next (count_kind b) (awaiting s) ≡ cond r (counting (digits s k)) no_count
begin_is b k low s r low_is is small can =
    ap (λ t. count_next t (awaiting s)) (ap count_kind is ∙ digit_kind k small) ∙ ap (λ t. cond t (counting (digits s k)) no_count) (ap (λ m. count_can_begin m k) low_is ∙ can)

go_on_is : (b n k low : ℕ) (s : Stage) (r : Bool) → bound s ≡ low → b ≡ 48 + k → k < 10 → count_can_go_on low n k ≡ r → count_next (count_kind b) (digits s n) ≡ cond r (counting (digits s (10 * n + k))) no_count
go_on_is b n k low s r low_is is small can =
    ap (λ t. count_next t (digits s n)) (ap count_kind is ∙ digit_kind k small) ∙ ap (λ t. cond t (counting (digits s (10 * n + k))) no_count) (ap (λ m. count_can_go_on m n k) low_is ∙ can)

module _ (p : List ℕ) (at low : ℕ) where
  pub no_digit : (f : Fault) → at ≤ length p → ((k : ℕ) → count_kind (get_or p at 0) ≡ digit k → at < length p → ⊥) → f ≡ refused BadlyWritten at → NumberRefused p at low f
  no_digit f le none is = record {
    is = is;
    stops = λ s _ e fr d ctx.
        stopped p f at _ is le (stops_at p at _ le refl (λ lt. ap (λ n. of_count n e fr d ctx) (awaits_digit _ s (λ k told. none k told lt))));
  }

  pub cannot_begin : (f : Fault) (k : ℕ) → at < length p → k < 10 → get_or p at 0 ≡ 48 + k → count_can_begin low k ≡ false → f ≡ refused BadlyWritten at → NumberRefused p at low f
  cannot_begin f k lt small byte cannot is = record {
    is = is;
    stops = λ s low_is e fr d ctx.
        stopped p f at _ is (omega arith)
        (stops_at p at _ (omega arith) refl (λ _. ap (λ n. of_count n e fr d ctx) (begin_is _ k low s false low_is byte small cannot)));
  }

  pub one_digit : (k : ℕ) → at < length p → k < 10 → get_or p at 0 ≡ 48 + k → count_can_begin low k ≡ true
      → ((n : ℕ) → count_kind (get_or p (at + 1) 0) ≡ digit n → at + 1 < length p → count_can_go_on low k n ≡ false) → NumberRead p at low k (at + 1)
  one_digit k lt small byte can stuck = record {
    within = omega arith;
    long = ap (λ l. at + length l) (decimal_digit k small);
    text = drop_is p at _ lt byte ∙ ap (λ l. l ++ drop (at + 1) p) (sym (decimal_digit k small));
    small = omega arith;
    stuck = stuck;
    runs = λ s low_is e fr d ctx. moves p at _ _ _ lt refl (ap (λ n. of_count n e fr d ctx) (begin_is _ k low s true low_is byte small can));
  }

  pub two_digits : (j k : ℕ) → at + 1 < length p → j < 10 → k < 10 → get_or p at 0 ≡ 48 + j → get_or p (at + 1) 0 ≡ 48 + k → count_can_begin low j ≡ true → count_can_go_on low j k ≡ true → NumberRead p at low (10 * j + k) (at + 1 + 1)
  two_digits j k lt small last one two can on =
      let parts = and_parts _ _ on in
      let some = leb-true 1 j parts.0 in
      let top : 10 * j + k ≤ 32 = leb-true _ 32 (and_parts (leb low (10 * j + k)) _ parts.1).1 in
      let q : (10 * j + k) / 10 ≡ j = omega arith in
      let r : (10 * j + k) % 10 ≡ k = omega arith in
      let digits_are : decimal (10 * j + k) ≡ (48 + j) ∷ ((48 + k) ∷ []) = decimal_two (10 * j + k) (omega arith) (omega arith) ∙ (λ i. (48 + q i) ∷ ((48 + r i) ∷ [])) in
      record {
        within = omega arith;
        long = omega (arith, ap length digits_are);
        text = drop_is p at _ (omega arith) one ∙ ap (λ l. (48 + j) ∷ l) (drop_is p (at + 1) _ lt two) ∙ ap (λ l. l ++ drop (at + 1 + 1) p) (sym digits_are);
        small = top;
        stuck = λ n _ _. and_right (leb 1 (10 * j + k)) _ (and_right (leb low (10 * (10 * j + k) + n)) _ (lt-leb (10 * (10 * j + k) + n) 32 (omega arith)));
        runs = λ s low_is e fr d ctx.
            moves p at _ _ (state (in_count e (digits s j)) fr d ctx) (omega arith) refl (ap (λ n. of_count n e fr d ctx) (begin_is _ j low s true low_is one small can))
            ∙ moves p (at + 1) _ _ (state (in_count e (digits s (10 * j + k))) fr d ctx) lt refl (ap (λ n. of_count n e fr d ctx) (go_on_is _ j k low s true low_is two last on));
      }

-- the one digit that stands there is the one that was tried
pub stuck_by : (p : List ℕ) (at low j k n : ℕ) → k < 10 → get_or p at 0 ≡ 48 + k → count_can_go_on low j k ≡ false → count_kind (get_or p at 0) ≡ digit n → count_can_go_on low j n ≡ false
stuck_by p at low j k n small byte cannot told =
    let same : digit k ≡ digit n = sym (ap count_kind byte ∙ digit_kind k small) ∙ told in
    let equal : n ≡ k = cc in
    ap (count_can_go_on low j) equal ∙ cannot
