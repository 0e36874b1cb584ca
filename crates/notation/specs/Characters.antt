-- What a byte of a pattern does, told by the character it is, outside a class and inside one. Assumes nothing.
--
--   kind b       which of the twelve special characters b is outside a class, or plain
--   escapable b  b may stand after a backslash
--   class_kind b  what b does inside a class
use Rattle.std.specs.Prelude.{ℕ, Bool, true, false, cond, ◌||◌, ◌==◌}

pub data Kind : Type 0 where
  bar times add query open' close' square unsquare brace unbrace dot backslash plain : Kind

abbrev pub kind : ℕ → Kind
kind b =
    cond (b == 124) bar (cond (b == 42) times (cond (b == 43) add (cond (b == 63) query
    (cond (b == 40) open' (cond (b == 41) close' (cond (b == 91) square (cond (b == 93) unsquare
    (cond (b == 123) brace (cond (b == 125) unbrace (cond (b == 46) dot (cond (b == 92) backslash plain)))))))))))

abbrev pub is_special : Kind → Bool
is_special bar = true
is_special times = true
is_special add = true
is_special query = true
is_special open' = true
is_special close' = true
is_special square = true
is_special unsquare = true
is_special brace = true
is_special unbrace = true
is_special dot = true
is_special backslash = true
is_special plain = false

-- the twelve, `-` and `^`
abbrev pub escapable : ℕ → Bool
escapable b = is_special (kind b) || (b == 45 || b == 94)

-- `]`, `\`, `-`, `[`, `^`, and what stands for itself
pub data ClassKind : Type 0 where
  ends slash hyphen bracket caret itself : ClassKind

abbrev pub class_kind : ℕ → ClassKind
class_kind b = cond (b == 93) ends (cond (b == 92) slash (cond (b == 45) hyphen (cond (b == 91) bracket (cond (b == 94) caret itself))))

abbrev pub kind_is_itself : ClassKind → Bool
kind_is_itself ends = false
kind_is_itself slash = false
kind_is_itself hyphen = false
kind_is_itself bracket = false
kind_is_itself caret = false
kind_is_itself itself = true
