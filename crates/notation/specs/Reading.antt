-- What reading a pattern answers: when it is granted, and how it is refused. Assumes nothing.
--
--   ReadAs w e      w is at most 256 bytes and is written so that it is read as e, which has at most 63 places
--   Readable w      w is read as some expression
--   Granted w n     w is read, and has n places
--   Refused w f     the first of the three refusals that w gives cause for
--   Assembled S w a   w is well written, and a stands for what it is read as, where S says what a part stands for
use Rattle.std.specs.Prelude.{◌≡◌, ℕ, ◌<◌, ◌≤◌, ◌⊎◌, List, length}
use Rattle.fault.specs.declared.Fault.{Fault}
use Rattle.fault.specs.declared.Refusal.TheVariants.{PatternTooLong, BadlyWritten, TooManyPlaces}
use Rattle.notation.specs.Expressions.{Regex}
use Rattle.notation.specs.Places.{places}
use Rattle.notation.specs.Grammar.{Written, WellWritten, deepest}
use Rattle.notation.specs.Beginnings.{LongestBeginning}
use Rattle.notation.specs.Refusals.{refused}

pub record ReadAs (w : List ℕ) (e : Regex) : Type 0 where
  pub short : length w ≤ 256
  pub written : Written deepest w e
  pub few : places e ≤ 63

abbrev pub Readable : List ℕ → Type 0
Readable w = (e : Regex) × ReadAs w e

abbrev pub Granted : List ℕ → ℕ → Type 0
Granted w n = (e : Regex) × ReadAs w e × (n ≡ places e)

abbrev pub TooLong : List ℕ → Fault → Type 0
TooLong w f = (256 < length w) × (f ≡ refused PatternTooLong (length w))

abbrev pub Bad : List ℕ → Fault → Type 0
Bad w f = (length w ≤ 256) × (WellWritten w → ⊥) × LongestBeginning w f.place × (f ≡ refused BadlyWritten f.place)

-- refused whatever it is read as
abbrev pub Unwritten : List ℕ → Fault → Type 0
Unwritten w f = TooLong w f ⊎ Bad w f

abbrev pub Crowded : List ℕ → Fault → Type 0
Crowded w f = (length w ≤ 256) × (e : Regex) × Written deepest w e × (63 < places e) × (f ≡ refused TooManyPlaces 0)

abbrev pub Refused : List ℕ → Fault → Type 0
Refused w f = TooLong w f ⊎ (Bad w f ⊎ Crowded w f)

pub record Assembled {T : Type 0} (S : T → Regex → Type 0) (w : List ℕ) (a : T) : Type 0 where
  pub expression : Regex
  pub short : length w ≤ 256
  pub written : Written deepest w expression
  pub stands : (e : Regex) → Written deepest w e → S a e
