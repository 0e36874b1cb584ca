-- One step of the automaton, and where two of its modes go on alike. Assumes nothing.
use Rattle.std.proofs.Common.{◌≡◌, ℕ, suc, Bool, true, false, List, [], ◌∷◌, length, sym, refl, ap, ◌∙◌}
use Rattle.std.proofs.lemmas.Bool.{true≢false}
use Rattle.notation.specs.Characters.{Kind, bar, times, add, query, open', close', square, unsquare, brace, unbrace, dot, backslash, plain, kind}
use Rattle.notation.specs.Expressions.{Regex}
use Rattle.notation.specs.Automaton.{Frame, State, state, ready, after, Next, dead, alive, Outcome, bad, push, begin, repeat_or, step_of, finish, outcome_of}

abbrev pub onward : Next → List ℕ → Outcome
onward n w = elim n as (λ _. Outcome) [ dead ↦ bad (suc (length w)) | alive t ↦ outcome_of t w ]

pub outcome_is : (s : State) (b : ℕ) (w : List ℕ) → outcome_of s (b ∷ w) ≡ onward (step_of s b) w
unfolding outcome_of
outcome_is s b w = refl

pub outcome_alive : (s t : State) (b : ℕ) (w : List ℕ) → step_of s b ≡ alive t → outcome_of s (b ∷ w) ≡ outcome_of t w
outcome_alive s t b w e = outcome_is s b w ∙ ap (λ n. onward n w) e

pub outcome_dead : (s : State) (b : ℕ) (w : List ℕ) → step_of s b ≡ dead → outcome_of s (b ∷ w) ≡ bad (suc (length w))
outcome_dead s b w e = outcome_is s b w ∙ ap (λ n. onward n w) e

pub outcome_end : (s : State) → outcome_of s [] ≡ finish s
unfolding outcome_of
outcome_end s = refl

abbrev pub is_repeat : Kind → Bool
is_repeat times = true
is_repeat add = true
is_repeat query = true
is_repeat brace = true
is_repeat bar = false
is_repeat open' = false
is_repeat close' = false
is_repeat square = false
is_repeat unsquare = false
is_repeat unbrace = false
is_repeat dot = false
is_repeat backslash = false
is_repeat plain = false

-- no repeat comes first in w
abbrev pub NoRepeat : List ℕ → Type 0
NoRepeat [] = Unit {0}
NoRepeat (b ∷ w) = is_repeat (kind b) ≡ false

pub settled : (k : Kind) (b : ℕ) (f : Regex) (fr : Frame) (d : ℕ) (ctx : List Frame) → is_repeat k ≡ false → repeat_or k b f fr d ctx ≡ begin k b (push f fr) d ctx
settled times b f fr d ctx e = absurd (true≢false e)
settled add b f fr d ctx e = absurd (true≢false e)
settled query b f fr d ctx e = absurd (true≢false e)
settled brace b f fr d ctx e = absurd (true≢false e)
settled bar b f fr d ctx e = refl
settled open' b f fr d ctx e = refl
settled close' b f fr d ctx e = refl
settled square b f fr d ctx e = refl
settled unsquare b f fr d ctx e = refl
settled unbrace b f fr d ctx e = refl
settled dot b f fr d ctx e = refl
settled backslash b f fr d ctx e = refl
settled plain b f fr d ctx e = refl

finish_settles : (f : Regex) (fr : Frame) (d : ℕ) (ctx : List Frame) → finish (state (after f) fr d ctx) ≡ finish (state ready (push f fr) d ctx)
finish_settles f fr d [] = refl
finish_settles f fr d (o ∷ ctx) = refl

-- an atom that is not repeated joins its branch
pub settles : (f : Regex) (fr : Frame) (d : ℕ) (ctx : List Frame) (w : List ℕ) → NoRepeat w → outcome_of (state (after f) fr d ctx) w ≡ outcome_of (state ready (push f fr) d ctx) w
settles f fr d ctx [] h = outcome_end _ ∙ finish_settles f fr d ctx ∙ sym (outcome_end _)
settles f fr d ctx (b ∷ w) h = outcome_is _ b w ∙ ap (λ n. onward n w) (settled (kind b) b f fr d ctx h) ∙ sym (outcome_is _ b w)
