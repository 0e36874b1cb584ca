-- What each sign makes of a draft. Assumes nothing.
use Rattle.std.proofs.Common.{◌≡◌, ℕ, ◌<◌, ◌≤◌, Bool, List, get_or, sym, ap, subst, arith, Bor}
use Rattle.pattern.specs.declared.sign.Sign.{Sign}
use Rattle.pattern.specs.declared.sign.Sign.TheVariants.{Plain, Escape, Any, Class, Bar, Star, Plus, Question, Counted}
use Rattle.notation.specs.Expressions.{Symbol, TakesSome, one, byte, any, star, plus, opt, counted}
use Rattle.notation.specs.Grammar.{Class as Written, Counts, exactly, between, a_plain, an_escape, a_dot, a_class, by_star, by_plus, by_opt, by_count}
use Rattle.notation.specs.Automaton.{Frame, Mode}
use Rattle.pattern.specs.Drafts.{AtomKept, BarKept, RepeatKept, Grows, by_atom, by_bar, by_repeat}
use Rattle.pattern.specs.Signs.{text, Formed}
use Rattle.pattern.specs.Repeats.{Braced}

counts_rise : {w : List ℕ} {m n : ℕ} → Counts w m n → m ≤ n
counts_rise (exactly le) = omega arith
counts_rise (between rise le) = rise

module _ (K K' : Mode → Frame → Type 0) (r : Bool) (s : Sign) (formed : Formed r s) (t : Bor (List ℕ)) where
  as_text : (s' : Sign) → s ≡ s' → Grows K K' r (text s') → Grows K K' r (text s)
  as_text s' is grows = subst (Grows K K' r) (sym (ap text is)) grows

  pub plain_grows : s ≡ Plain t → get_or t.now 0 0 < 256 → AtomKept K K' (one (byte (get_or t.now 0 0))) → Grows K K' r (text s)
  plain_grows is small told =
      let (b, whole, plain') = subst (Formed r) is formed in
      let first : get_or t.now 0 0 ≡ b = ap (λ l. get_or l 0 0) whole in
      as_text _ is (subst (Grows K K' r) (sym whole) (by_atom (one (byte b)) (a_plain (subst (λ x. x < 256) first small) plain') (subst (λ x. AtomKept K K' (one (byte x))) first told)))

  pub escape_grows : s ≡ Escape t → AtomKept K K' (one (byte (get_or t.now 1 0))) → Grows K K' r (text s)
  escape_grows is told =
      let (b, whole, can) = subst (Formed r) is formed in
      let second : get_or t.now 1 0 ≡ b = ap (λ l. get_or l 1 0) whole in
      as_text _ is (subst (Grows K K' r) (sym whole) (by_atom (one (byte b)) (an_escape can) (subst (λ x. AtomKept K K' (one (byte x))) second told)))

  pub any_grows : s ≡ Any t → AtomKept K K' (one any) → Grows K K' r (text s)
  any_grows is told = as_text _ is (subst (Grows K K' r) (sym (subst (Formed r) is formed)) (by_atom (one any) a_dot told))

  pub class_grows : s ≡ Class t → ((e : Symbol) → Written t.now e → TakesSome e → AtomKept K K' (one e)) → Grows K K' r (text s)
  class_grows is told = let (e, written, some) = subst (Formed r) is formed in as_text _ is (by_atom (one e) (a_class written some) (told e written some))

  pub bar_grows : s ≡ Bar t → BarKept K K' → Grows K K' r (text s)
  bar_grows is told = as_text _ is (by_bar (subst (Formed r) is formed) told)

  pub star_grows : s ≡ Star t → RepeatKept K K' star → Grows K K' r (text s)
  star_grows is told = let (whole, again) = subst (Formed r) is formed in as_text _ is (subst (Grows K K' r) (sym whole) (by_repeat again star (λ e. by_star) told))

  pub plus_grows : s ≡ Plus t → RepeatKept K K' plus → Grows K K' r (text s)
  plus_grows is told = let (whole, again) = subst (Formed r) is formed in as_text _ is (subst (Grows K K' r) (sym whole) (by_repeat again plus (λ e. by_plus) told))

  pub question_grows : s ≡ Question t → RepeatKept K K' opt → Grows K K' r (text s)
  question_grows is told = let (whole, again) = subst (Formed r) is formed in as_text _ is (subst (Grows K K' r) (sym whole) (by_repeat again opt (λ e. by_opt) told))

  pub counted_grows : s ≡ Counted t → (m n : ℕ) → Braced t.now m n → (m ≤ n → RepeatKept K K' (counted m n)) → Grows K K' r (text s)
  counted_grows is m n (w, whole, counts) told =
      let (_, again) = subst (Formed r) is formed in
      as_text _ is (subst (Grows K K' r) (sym whole) (by_repeat again (counted m n) (λ e. by_count counts) (told (counts_rise counts))))
