-- What the automaton reads as an expression is written so. Assumes nothing.
use Rattle.std.proofs.Common.{◌≡◌, ℕ, ◌<◌, Bool, true, ◌&&◌, ltb, List, [], ◌∷◌, ◌++◌, sym, refl, ap, ◌∙◌, subst, append_assoc, append-nil, arith}
use Rattle.std.specs.List.{AllByRecursion}
use Rattle.std.proofs.ByRecursion.{All-append}
use Rattle.std.proofs.lemmas.Bool.{and_parts, ltb-true}
use Rattle.notation.specs.declared.names.Name.{Name}
use Rattle.notation.specs.Names.{written}
use Rattle.notation.specs.Expressions.{Regex}
use Rattle.notation.specs.Grammar.{Written, once, nothing}
use Rattle.notation.specs.Automaton.{Frame, State, state, ready, after, escape, in_class, in_count, Next, dead, alive, good, bad, closed, push, step_of, finish, outcome_of, start}
use Rattle.notation.proofs.Spellings.{each_name}
use Rattle.notation.proofs.Seen.{Open, Seen}
use Rattle.notation.proofs.Steps.{Goes, shut, grow, written_is, step_goes}
use Rattle.notation.proofs.Runs.{onward, outcome_is, outcome_end}

-- a byte is below 256, and a text is a list of bytes
abbrev pub Bytes : List ℕ → Type 0
Bytes w = AllByRecursion (λ b. b < 256) w

abbrev pub all_bytes : List ℕ → Bool
all_bytes [] = true
all_bytes (b ∷ w) = ltb b 256 && all_bytes w

pub bytes_by : (w : List ℕ) → all_bytes w ≡ true → Bytes w
bytes_by [] e = tt
bytes_by (b ∷ w) e = let p = and_parts _ _ e in (ltb-true b 256 p.0, bytes_by w p.1)

pub bytes_append : (v w : List ℕ) → Bytes v → Bytes w → Bytes (v ++ w)
bytes_append v w = All-append (λ b. b < 256) v w

pub bytes_behind : (v w : List ℕ) → Bytes (v ++ w) → Bytes w
bytes_behind [] w bytes = bytes
bytes_behind (b ∷ v) w bytes = bytes_behind v w bytes.1

pub name_bytes : (n : Name) → Bytes (written n)
name_bytes n = bytes_by (written n) (each_name (λ m. all_bytes (written m)) refl n)

pub never : {A : Type 0} (e : Regex) (n : ℕ) → bad n ≡ good e → A
never e n is = let z : ◌≡◌ {A = ℕ} 0 1 = cc in absurd (omega arith)

ends_well : (d : ℕ) (fr : Frame) (w o u t : List ℕ) (e : Regex) → w ≡ o ++ (u ++ t) → (o ≡ []) × (d ≡ 16) → Open d fr (u ++ t) → good (closed fr) ≡ good e → Written 16 w e
ends_well d fr w o u t e is (none, top) within same =
    let text : w ≡ u ++ t = is ∙ ap (λ l. l ++ (u ++ t)) none in
    let read : closed fr ≡ e = cc in
    subst (λ x. Written 16 w x) read (subst (λ l. Written 16 l (closed fr)) (sym text) (subst (λ n. Written n (u ++ t) (closed fr)) top (written_is d _ _ (shut d fr _ within))))

finish_sounds : (s : State) (w : List ℕ) (e : Regex) → Seen s w → finish s ≡ good e → Written 16 w e
finish_sounds (state ready fr d []) w e (o, u, t, is, around, within, sign) same =
    ends_well d fr w o u t e is around (subst (Open d fr) (sym (ap (λ l. u ++ l) sign ∙ append-nil u)) within) same
finish_sounds (state (after f) fr d []) w e (o, u, t, is, around, within, sign) same =
    ends_well d (push f fr) w o u t e is around (grow d fr u t f within (once sign)) same
finish_sounds (state ready fr d (x ∷ ctx)) w e seen same = never e 0 same
finish_sounds (state (after f) fr d (x ∷ ctx)) w e seen same = never e 0 same
finish_sounds (state escape fr d ctx) w e seen same = never e 0 same
finish_sounds (state (in_class s c) fr d ctx) w e seen same = never e 0 same
finish_sounds (state (in_count f c) fr d ctx) w e seen same = never e 0 same

onward_sounds : (n : Next) (w p : List ℕ) (e : Regex) → Goes n w → ((t : State) → Seen t w → outcome_of t p ≡ good e → Written 16 (w ++ p) e) → onward n p ≡ good e → Written 16 (w ++ p) e
onward_sounds dead w p e goes rest is = never e _ is
onward_sounds (alive t) w p e goes rest is = rest t goes is

pub sounds : (s : State) (w p : List ℕ) (e : Regex) → Bytes p → Seen s w → outcome_of s p ≡ good e → Written 16 (w ++ p) e
sounds s w [] e bytes seen is = subst (λ l. Written 16 l e) (sym (append-nil w)) (finish_sounds s w e seen (sym (outcome_end s) ∙ is))
sounds s w (b ∷ p) e bytes seen is =
    subst (λ l. Written 16 l e) (append_assoc w (b ∷ []) p)
    (onward_sounds (step_of s b) (w ++ b ∷ []) p e (step_goes s b w bytes.0 seen) (λ t goes. sounds t (w ++ b ∷ []) p e bytes.1 goes) (sym (outcome_is s b p) ∙ is))

pub seen_start : Seen start []
seen_start = ([], [], [], refl, (refl, refl), nothing, refl)

pub sound : (w : List ℕ) (e : Regex) → Bytes w → outcome_of start w ≡ good e → Written 16 w e
sound w e bytes is = sounds start [] w e bytes seen_start is
