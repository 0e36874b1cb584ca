-- A step of the automaton adds its byte to the text that was read. Assumes nothing.
use Rattle.std.proofs.Common.{◌≡◌, ℕ, zero, suc, ◌<◌, List, [], ◌∷◌, ◌++◌, sym, refl, ap, ◌∙◌, subst, append_assoc, append-nil}
use Rattle.std.proofs.lemmas.Bool.{cond_both}
use Rattle.notation.specs.Characters.{Kind, bar, times, add, query, open', close', square, unsquare, brace, unbrace, dot, backslash, plain, kind, escapable, class_kind}
use Rattle.notation.specs.Expressions.{Regex, one, alt, counted}
use Rattle.notation.specs.Grammar.{Repeated, by_star, by_plus, by_opt, by_count, Atom, a_plain, an_escape, a_dot, a_class, a_group, Piece, once, repeated, nothing, followed, Alternatives, lone, also, Written}
use Rattle.notation.specs.ClassAutomaton.{ClassNext, no_class, inside, finished, class_next}
use Rattle.notation.specs.Automaton.{Frame, frame, first, later, ready, after, escape, in_class, in_count, CountNext, no_count, counting, counts, count_next, count_kind, State, state, Next, dead, alive, push, closed, begin, repeat_or, of_class, of_count, step_of}
use Rattle.notation.proofs.Chars.{Has, has}
use Rattle.notation.proofs.Seen.{Group, Open, Around, Seen}
use Rattle.notation.proofs.ClassSeen.{class_begun, class_goes, Goes as ClassGoes}
use Rattle.notation.proofs.CountSeen.{count_goes, Goes as CountGoes}

abbrev pub Goes : Next → List ℕ → Type 0
Goes dead w = Unit {0}
Goes (alive s) w = Seen s w

pub shut : (d : ℕ) (fr : Frame) (u : List ℕ) → Open d fr u → Alternatives (Group d) u (closed fr)
shut d (frame first e) u b = lone b
shut d (frame (later a) e) u (x, y, is, before, b) = subst (λ l. Alternatives (Group d) l (alt a e)) (sym is) (also before b)

pub grow : (d : ℕ) (fr : Frame) (u v : List ℕ) (f : Regex) → Open d fr u → Piece (Group d) v f → Open d (push f fr) (u ++ v)
grow d (frame first e) u v f b p = followed b p
grow d (frame (later a) e) u v f (x, y, is, before, b) p = (x, y ++ v, ap (λ l. l ++ v) is ∙ append_assoc x (124 ∷ y) v, before, followed b p)

pub written_is : (d : ℕ) (u : List ℕ) (e : Regex) → Alternatives (Group d) u e → Written d u e
written_is zero u e a = a
written_is (suc d) u e a = a

-- w, its last part, and one byte more
glue : (w o u t r : List ℕ) → w ≡ o ++ (u ++ t) → w ++ r ≡ o ++ (u ++ (t ++ r))
glue w o u t r is = ap (λ l. l ++ r) is ∙ append_assoc o (u ++ t) r ∙ ap (λ l. o ++ l) (append_assoc u t r)

begin_goes : (b : ℕ) → b < 256 → (k : Kind) → kind b ≡ k → Has k b → (fr : Frame) (d : ℕ) (ctx : List Frame) (w o u : List ℕ)
    → w ≡ o ++ u → Around d ctx o → Open d fr u → Goes (begin k b fr d ctx) (w ++ b ∷ [])
begin_goes b small bar is has fr d ctx w o u e around within =
    (o, u ++ 124 ∷ [], [], (λ i. e i ++ has i ∷ []) ∙ append_assoc o u _ ∙ ap (λ l. o ++ l) (sym (append-nil _)), around, (u, [], refl, shut d fr u within, nothing), refl)
begin_goes b small times is has fr d ctx w o u e around within = tt
begin_goes b small add is has fr d ctx w o u e around within = tt
begin_goes b small query is has fr d ctx w o u e around within = tt
begin_goes b small open' is has fr zero ctx w o u e around within = tt
begin_goes b small open' is has fr (suc d) ctx w o u e around within =
    (o ++ (u ++ 40 ∷ []), [], [], (λ i. e i ++ has i ∷ []) ∙ append_assoc o u _ ∙ sym (append-nil _), (o, u, refl, around, within), nothing, refl)
begin_goes b small close' is has fr d [] w o u e around within = tt
begin_goes b small close' is has fr d (f ∷ ctx) w o u e (p, v, before, around, outer) within = (
  p,
  v,
  40 ∷ (u ++ 41 ∷ []),
  (λ i. e i ++ has i ∷ []) ∙ append_assoc o u _ ∙ ap (λ l. l ++ (u ++ 41 ∷ [])) before ∙ append_assoc p _ _ ∙ ap (λ l. p ++ l) (append_assoc v (40 ∷ []) _),
  around,
  outer,
  a_group (written_is d u (closed fr) (shut d fr u within)),
)
begin_goes b small square is has fr d ctx w o u e around within =
    (o, u, 91 ∷ [], (λ i. e i ++ has i ∷ []) ∙ append_assoc o u _, around, within, ([], refl, class_begun))
begin_goes b small unsquare is has fr d ctx w o u e around within = tt
begin_goes b small brace is has fr d ctx w o u e around within = tt
begin_goes b small unbrace is has fr d ctx w o u e around within = tt
begin_goes b small dot is has fr d ctx w o u e around within = (o, u, 46 ∷ [], (λ i. e i ++ has i ∷ []) ∙ append_assoc o u _, around, within, a_dot)
begin_goes b small backslash is has fr d ctx w o u e around within = (o, u, 92 ∷ [], (λ i. e i ++ has i ∷ []) ∙ append_assoc o u _, around, within, refl)
begin_goes b small plain is has fr d ctx w o u e around within = (o, u, b ∷ [], ap (λ l. l ++ b ∷ []) e ∙ append_assoc o u _, around, within, a_plain small is)

repeated_goes : (w o u t r : List ℕ) (f g : Regex) (fr : Frame) (d : ℕ) (ctx : List Frame) → w ≡ o ++ (u ++ t) → Around d ctx o → Open d fr u → Atom (Group d) t f → Repeated r f g → Seen (state ready (push g fr) d ctx) (w ++ r)
repeated_goes w o u t r f g fr d ctx is around within atom rep =
    (o, u ++ (t ++ r), [], glue w o u t r is ∙ ap (λ l. o ++ l) (sym (append-nil _)), around, grow d fr u (t ++ r) g within (repeated atom rep), refl)

after_goes : (b : ℕ) → b < 256 → (k : Kind) → kind b ≡ k → Has k b → (f : Regex) (fr : Frame) (d : ℕ) (ctx : List Frame) (w o u t : List ℕ)
    → w ≡ o ++ (u ++ t) → Around d ctx o → Open d fr u → Atom (Group d) t f → Goes (repeat_or k b f fr d ctx) (w ++ b ∷ [])
after_goes b small times is has f fr d ctx w o u t e around within atom = subst (λ x. Goes (repeat_or times x f fr d ctx) (w ++ x ∷ [])) (sym has) (repeated_goes w o u t _ f _ fr d ctx e around within atom by_star)
after_goes b small add is has f fr d ctx w o u t e around within atom = subst (λ x. Goes (repeat_or add x f fr d ctx) (w ++ x ∷ [])) (sym has) (repeated_goes w o u t _ f _ fr d ctx e around within atom by_plus)
after_goes b small query is has f fr d ctx w o u t e around within atom = subst (λ x. Goes (repeat_or query x f fr d ctx) (w ++ x ∷ [])) (sym has) (repeated_goes w o u t _ f _ fr d ctx e around within atom by_opt)
after_goes b small brace is has f fr d ctx w o u t e around within atom =
    (o, u, t ++ b ∷ [], glue w o u t _ e, around, within, (t, [], ap (λ x. t ++ x ∷ []) has, atom, refl))
after_goes b small bar is has f fr d ctx w o u t e around within atom = begin_goes b small bar is has (push f fr) d ctx w o (u ++ t) e around (grow d fr u t f within (once atom))
after_goes b small open' is has f fr d ctx w o u t e around within atom = begin_goes b small open' is has (push f fr) d ctx w o (u ++ t) e around (grow d fr u t f within (once atom))
after_goes b small close' is has f fr d ctx w o u t e around within atom = begin_goes b small close' is has (push f fr) d ctx w o (u ++ t) e around (grow d fr u t f within (once atom))
after_goes b small square is has f fr d ctx w o u t e around within atom = begin_goes b small square is has (push f fr) d ctx w o (u ++ t) e around (grow d fr u t f within (once atom))
after_goes b small unsquare is has f fr d ctx w o u t e around within atom = tt
after_goes b small unbrace is has f fr d ctx w o u t e around within atom = tt
after_goes b small dot is has f fr d ctx w o u t e around within atom = begin_goes b small dot is has (push f fr) d ctx w o (u ++ t) e around (grow d fr u t f within (once atom))
after_goes b small backslash is has f fr d ctx w o u t e around within atom = begin_goes b small backslash is has (push f fr) d ctx w o (u ++ t) e around (grow d fr u t f within (once atom))
after_goes b small plain is has f fr d ctx w o u t e around within atom = begin_goes b small plain is has (push f fr) d ctx w o (u ++ t) e around (grow d fr u t f within (once atom))

class_steps : (b : ℕ) (n : ClassNext) (fr : Frame) (d : ℕ) (ctx : List Frame) (w o u t v : List ℕ)
    → w ≡ o ++ (u ++ t) → Around d ctx o → Open d fr u → t ≡ 91 ∷ v → ClassGoes n v b → Goes (of_class n fr d ctx) (w ++ b ∷ [])
class_steps b no_class fr d ctx w o u t v e around within is goes = tt
class_steps b (inside s c) fr d ctx w o u t v e around within is goes =
    (o, u, t ++ b ∷ [], glue w o u t _ e, around, within, (v ++ b ∷ [], ap (λ l. l ++ b ∷ []) is, goes))
class_steps b (finished s) fr d ctx w o u t v e around within is (ends, class, takes) =
    (o, u, t ++ b ∷ [], glue w o u t _ e, around, within, subst (λ l. Atom (Group d) l (one s)) (sym (λ i. is i ++ ends i ∷ [])) (a_class class takes))

count_steps : (b : ℕ) (n : CountNext) (f : Regex) (fr : Frame) (d : ℕ) (ctx : List Frame) (w o u t v y : List ℕ)
    → w ≡ o ++ (u ++ t) → Around d ctx o → Open d fr u → t ≡ v ++ 123 ∷ y → Atom (Group d) v f → CountGoes n y b → Goes (of_count n f fr d ctx) (w ++ b ∷ [])
count_steps b no_count f fr d ctx w o u t v y e around within is atom goes = tt
count_steps b (counting c) f fr d ctx w o u t v y e around within is atom goes =
    (o, u, t ++ b ∷ [], glue w o u t _ e, around, within, (v, y ++ b ∷ [], ap (λ l. l ++ b ∷ []) is ∙ append_assoc v (123 ∷ y) _, atom, goes))
count_steps b (counts m n) f fr d ctx w o u t v y e around within is atom goes = (
  o,
  u ++ (v ++ 123 ∷ (y ++ b ∷ [])),
  [],
  glue w o u t _ e ∙ ap (λ l. o ++ (u ++ l)) (ap (λ l. l ++ b ∷ []) is ∙ append_assoc v (123 ∷ y) _) ∙ ap (λ l. o ++ l) (sym (append-nil _)),
  around,
  grow d fr u _ (counted m n f) within (repeated atom (by_count goes)),
  refl,
)

pub step_goes : (s : State) (b : ℕ) (w : List ℕ) → b < 256 → Seen s w → Goes (step_of s b) (w ++ b ∷ [])
step_goes (state ready fr d ctx) b w small (o, u, t, e, around, within, sign) =
    begin_goes b small (kind b) refl (has b) fr d ctx w o u (e ∙ ap (λ l. o ++ (u ++ l)) sign ∙ ap (λ l. o ++ l) (append-nil u)) around within
step_goes (state (after f) fr d ctx) b w small (o, u, t, e, around, within, sign) = after_goes b small (kind b) refl (has b) f fr d ctx w o u t e around within sign
step_goes (state escape fr d ctx) b w small (o, u, t, e, around, within, sign) =
    cond_both (escapable b) _ _ (λ n. Goes n (w ++ b ∷ []))
    (λ is. (o, u, 92 ∷ (b ∷ []), glue w o u t _ e ∙ ap (λ l. o ++ (u ++ (l ++ b ∷ []))) sign, around, within, an_escape is)) (λ _. tt)
step_goes (state (in_class s c) fr d ctx) b w small (o, u, t, e, around, within, (v, is, class)) =
    class_steps b (class_next (class_kind b) b s c) fr d ctx w o u t v e around within is (class_goes b small s c v class)
step_goes (state (in_count f c) fr d ctx) b w small (o, u, t, e, around, within, (v, y, is, atom, count)) =
    count_steps b (count_next (count_kind b) c) f fr d ctx w o u t v y e around within is atom (count_goes b c y count)
