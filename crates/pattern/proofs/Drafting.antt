-- What a draft says of the mode that it is kept in. Assumes nothing.
use Rattle.std.proofs.Common.{◌≡◌, Bool, true, Option, None, Some, is_some, refl}
use Rattle.std.specs.Option.{IsSomeAnd}
use Rattle.pattern.specs.declared.draft.Draft.{Draft}
use Rattle.notation.specs.Expressions.{Regex, seq}
use Rattle.notation.specs.Automaton.{Mode, ready, after, escape, in_class, in_count, Frame, frame, first, later, push}
use Rattle.pattern.specs.Drafts.{Opens, Keeps}
use Rattle.pattern.specs.Signs.{Waits}

some_and : {T : Type 0} (o : Option T) (P : T → Type 0) → IsSomeAnd o P → is_some o ≡ true
some_and None P none = absurd none
some_and (Some x) P held = refl

pub keeps_waits : {T : Type 0} (S : T → Regex → Type 0) (c : Draft T) {r : Bool} → r ≡ is_some c.last → (m : Mode) (fr : Frame) → Keeps S c m fr → Waits r m
keeps_waits S c told ready fr (_, is) = rw (told, is) refl
keeps_waits S c told (after f) fr (_, is) = rw (told, some_and c.last (λ x. S x f) is) (f, refl)
keeps_waits S c told escape fr none = absurd none
keeps_waits S c told (in_class rs s) fr none = absurd none
keeps_waits S c told (in_count f s) fr none = absurd none

-- the branch is longer by e
pub branch_grows : {T : Type 0} (S : T → Regex → Type 0) (c : Draft T) (branch : T) (e : Regex) → ((a : Regex) → S c.branch a → S branch (seq a e))
    → (fr : Frame) → Opens S c fr → Keeps S (record { earlier = c.earlier; branch = branch; last = None }) ready (push e fr)
branch_grows S c branch e told (frame first a) (none, held) = ((none, told a held), refl)
branch_grows S c branch e told (frame (later b) a) (earlier, held) = ((earlier, told a held), refl)
