-- How a class is read byte by byte, from after its bracket: a state, and the symbol of the members that are finished. Only the reader's private functions cite it. Assumes nothing.
--
--   ClassState      just after the bracket, before a member, in an escape, after a byte, in a range, or in a name, whose bytes so far are kept
--   ranges_in s     the ranges of s, which it takes or leaves out
--   can_take s      s takes some byte, or can with more members
--   spelling w      the name that w spells
--   ends_name s w n   n begins with w, and s can take once n is added
--   can_end s c     the member that c has begun can end so that the class takes some byte, now or with more members
--   class_next k b s c   where the byte b of the kind k leads: only to where the class can still be ended well
use Rattle.std.specs.Prelude.{ℕ, zero, suc, Bool, true, false, cond, not, ◌&&◌, ◌||◌, Option, None, Some, List, [], ◌∷◌, ◌++◌, nat_eq, nat_le}
use Rattle.std.specs.List.{list_any, find, starts_with}
use Rattle.std.specs.Cmp.Lexicographic.{pointwise}
use Rattle.notation.specs.Characters.{escapable, ClassKind, ends, slash, hyphen, bracket, caret, itself}
use Rattle.notation.specs.declared.names.Name.{Name}
use Rattle.notation.specs.Names.{written, ranges, names}
use Rattle.notation.specs.Expressions.{Range, Symbol, these, others}

pub data ClassState : Type 0 where
  entered fresh in_escape : ClassState
  member dashed dashed_escape : ℕ → ClassState
  naming : List ℕ → ClassState

pub data ClassNext : Type 0 where
  no_class : ClassNext
  inside : Symbol → ClassState → ClassNext
  finished : Symbol → ClassNext

abbrev pub ranges_in : Symbol → List Range
ranges_in (these rs) = rs
ranges_in (others rs) = rs

-- what the class takes once a member has added these ranges
abbrev pub adding : Symbol → List Range → Symbol
adding (these rs) qs = these (rs ++ qs)
adding (others rs) qs = others (rs ++ qs)

abbrev pub in_some : List Range → ℕ → Bool
in_some [] b = false
in_some (r ∷ rs) b = (nat_le r.0 b && nat_le b r.1) || in_some rs b

unfoldable pub some_below : (ℕ → Bool) → ℕ → Bool
some_below test zero = false
some_below test (suc n) = test n || some_below test n

abbrev pub some_byte : (ℕ → Bool) → Bool
some_byte test = some_below test 256

-- the class can still take some byte: of a complement, members only leave less
abbrev pub can_take : Symbol → Bool
can_take (these rs) = true
can_take (others rs) = some_byte (λ b. not (in_some rs b))

unfoldable pub spelling : List ℕ → Option Name
spelling w = find (λ n. pointwise nat_eq (written n) w) names

abbrev pub ends_name : Symbol → List ℕ → Name → Bool
ends_name s w n = starts_with nat_eq (written n) w && can_take (adding s (ranges n))

-- the member in hand can end so that the class can still take some byte
abbrev pub can_end : Symbol → ClassState → Bool
can_end s entered = can_take s
can_end s fresh = can_take s
can_end s in_escape = can_take s
can_end s (member a) = can_take (adding s ((a, a) ∷ []))
can_end s (dashed a) = can_take (adding s ((a, a) ∷ []))
can_end s (dashed_escape a) = some_byte (λ b. escapable b && (nat_le a b && can_take (adding s ((a, b) ∷ []))))
can_end s (naming w) = list_any (ends_name s w) names

abbrev pub closed_class : Symbol → ClassNext
closed_class (these []) = no_class
closed_class (these (r ∷ rs)) = finished (these (r ∷ rs))
closed_class (others []) = no_class
closed_class (others (r ∷ rs)) = finished (others (r ∷ rs))

-- where a member can begin
abbrev pub begins_member : ClassKind → ℕ → Symbol → ClassNext
begins_member ends b s = closed_class s
begins_member slash b s = inside s in_escape
begins_member hyphen b s = no_class
begins_member bracket b s = inside s (naming (b ∷ []))
begins_member caret b s = no_class
begins_member itself b s = inside s (member b)

abbrev pub spelled : Option Name → Symbol → List ℕ → ClassNext
spelled None s w = inside s (naming w)
spelled (Some n) s w = inside (adding s (ranges n)) fresh

abbrev pub class_moves : ClassKind → ℕ → Symbol → ClassState → ClassNext
class_moves ends b s entered = no_class
class_moves slash b s entered = begins_member slash b s
class_moves hyphen b s entered = no_class
class_moves bracket b s entered = begins_member bracket b s
class_moves caret b s entered = inside (others []) fresh
class_moves itself b s entered = begins_member itself b s
class_moves k b s fresh = begins_member k b s
class_moves ends b s (member a) = begins_member ends b (adding s ((a, a) ∷ []))
class_moves slash b s (member a) = begins_member slash b (adding s ((a, a) ∷ []))
class_moves hyphen b s (member a) = inside s (dashed a)
class_moves bracket b s (member a) = begins_member bracket b (adding s ((a, a) ∷ []))
class_moves caret b s (member a) = no_class
class_moves itself b s (member a) = begins_member itself b (adding s ((a, a) ∷ []))
class_moves ends b s (dashed a) = no_class
class_moves slash b s (dashed a) = inside s (dashed_escape a)
class_moves hyphen b s (dashed a) = no_class
class_moves bracket b s (dashed a) = no_class
class_moves caret b s (dashed a) = no_class
class_moves itself b s (dashed a) = cond (nat_le a b) (inside (adding s ((a, b) ∷ [])) fresh) no_class
class_moves k b s in_escape = cond (escapable b) (inside s (member b)) no_class
class_moves k b s (dashed_escape a) = cond (escapable b && nat_le a b) (inside (adding s ((a, b) ∷ [])) fresh) no_class
class_moves k b s (naming w) = spelled (spelling (w ++ b ∷ [])) s (w ++ b ∷ [])

-- only while the member in hand can end well
abbrev pub kept : ClassNext → ClassNext
kept no_class = no_class
kept (inside s c) = cond (can_end s c) (inside s c) no_class
kept (finished s) = finished s

abbrev pub class_next : ClassKind → ℕ → Symbol → ClassState → ClassNext
class_next k b s c = kept (class_moves k b s c)
