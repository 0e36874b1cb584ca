-- The members of a class as the reader tells them, and how far it has come with one. Only private functions cite it. Assumes nothing.
--
--   so_far n              the bytes so far of a name
--   some_begins w         some name begins with w
--   ranges_of m           the bytes that a finished member takes
--   state_of p            where the automaton is inside a class
--   Suits s p             with s what the finished members make of the class, the reader can be at p
--   with_last s f         the symbol s, with the member that a byte finishes where there is one
--   Moves s t n new       the answer t of the class reader goes where the automaton goes, n, and leaves it at new
--   Follows old b t new   what the class reader answers to the byte b, None where b cannot stand, and where it is then
use Rattle.std.specs.Prelude.{◌≡◌, ℕ, ◌<◌, Bool, Option, None, Some, List, [], ◌∷◌, length, take, nat_eq}
use Rattle.std.specs.List.{list_any, starts_with}
use Rattle.notation.specs.Characters.{class_kind}
use Rattle.notation.specs.Names.{written, ranges, names}
use Rattle.notation.specs.Expressions.{Range, Symbol, these, others}
use Rattle.notation.specs.ClassAutomaton.{ClassState, entered, fresh, in_escape, member, dashed, dashed_escape, naming, ClassNext, no_class, inside, finished, adding, ranges_in, class_moves, kept}
use Rattle.pattern.specs.declared.spelling.Spelled.{Spelled}
use Rattle.pattern.specs.declared.member.Member.{Member}
use Rattle.pattern.specs.declared.member.Member.TheVariants.{Range as a_range, Name as a_name}
use Rattle.pattern.specs.declared.member.Progress.{Progress}
use Rattle.pattern.specs.declared.member.Progress.TheVariants.{Opened, Empty, Between, Single, Dash, Escape, DashEscape, Naming}
use Rattle.pattern.specs.declared.member.Taken.{Taken}
use Rattle.pattern.specs.declared.member.Taken.TheVariants.{Complement, Inside, Ended}

abbrev pub so_far : Spelled → List ℕ
so_far n = take n.len (written n.name)

unfoldable pub some_begins : List ℕ → Bool
some_begins w = list_any (λ n. starts_with nat_eq (written n) w) names

abbrev pub ranges_of : Member → List Range
ranges_of (a_range low high) = (low, high) ∷ []
ranges_of (a_name n) = ranges n

abbrev pub state_of : Progress → ClassState
state_of Opened = entered
state_of Empty = fresh
state_of Between = fresh
state_of (Single a) = member a
state_of (Dash a) = dashed a
state_of Escape = in_escape
state_of (DashEscape a) = dashed_escape a
state_of (Naming n) = naming (so_far n)

abbrev pub Suits : Symbol → Progress → Type 0
Suits s Opened = s ≡ these []
Suits s Empty = s ≡ others []
Suits s Between = 0 < length (ranges_in s)
Suits s (Single a) = Unit {0}
Suits s (Dash a) = Unit {0}
Suits s Escape = Unit {0}
Suits s (DashEscape a) = Unit {0}
Suits s (Naming n) = Unit {0}

abbrev pub with_last : Symbol → Option Member → Symbol
with_last s None = s
with_last s (Some m) = adding s (ranges_of m)

-- bytes that begin no name are refused at once; the automaton moves on and finds that they cannot end
abbrev pub Moves : Symbol → Option Taken → ClassNext → Progress → Type 0
Moves s None n new = kept n ≡ no_class
Moves s (Some Complement) n new = (s ≡ these []) × (n ≡ inside (others []) fresh) × (new ≡ Empty)
Moves s (Some (Inside f)) n new = (n ≡ inside (with_last s f) (state_of new)) × Suits (with_last s f) new
Moves s (Some (Ended f)) n new = n ≡ finished (with_last s f)

abbrev pub Follows : Progress → ℕ → Option Taken → Progress → Type 0
Follows old b t new = (s : Symbol) → Suits s old → Moves s t (class_moves (class_kind b) b s (state_of old)) new
