-- The names of bytes that a class can have among its members: how each is written, and which bytes it takes. Assumes nothing.
--
--   written n      n as it stands in a class
--   names          all of them
--   ranges n       the bytes that n takes: none is above 127
--   Marks t rs     the table t has 1 for the bytes in some of the ranges rs, and 0 for all others
use Rattle.std.specs.Prelude.{◌≡◌, ℕ, ◌<◌, List, [], ◌∷◌, codes, slice_index}
use Rattle.notation.specs.Expressions.{Range, InSome}
use Rattle.notation.specs.declared.names.Name.{Name}
use Rattle.notation.specs.declared.names.Name.TheVariants.{Alpha, Digit, Alnum, Upper, Lower, Space, Blank, Punct, Print, Graph, Cntrl, Xdigit}

abbrev pub written : Name → List ℕ
written Alpha = codes "[:alpha:]"
written Digit = codes "[:digit:]"
written Alnum = codes "[:alnum:]"
written Upper = codes "[:upper:]"
written Lower = codes "[:lower:]"
written Space = codes "[:space:]"
written Blank = codes "[:blank:]"
written Punct = codes "[:punct:]"
written Print = codes "[:print:]"
written Graph = codes "[:graph:]"
written Cntrl = codes "[:cntrl:]"
written Xdigit = codes "[:xdigit:]"

abbrev pub names : List Name
names = Alpha ∷ (Digit ∷ (Alnum ∷ (Upper ∷ (Lower ∷ (Space ∷ (Blank ∷ (Punct ∷ (Print ∷ (Graph ∷ (Cntrl ∷ (Xdigit ∷ [])))))))))))

abbrev pub ranges : Name → List Range
ranges Alpha = (65, 90) ∷ ((97, 122) ∷ [])
ranges Digit = (48, 57) ∷ []
ranges Alnum = (48, 57) ∷ ((65, 90) ∷ ((97, 122) ∷ []))
ranges Upper = (65, 90) ∷ []
ranges Lower = (97, 122) ∷ []
ranges Space = (9, 13) ∷ ((32, 32) ∷ [])
ranges Blank = (9, 9) ∷ ((32, 32) ∷ [])
ranges Punct = (33, 47) ∷ ((58, 64) ∷ ((91, 96) ∷ ((123, 126) ∷ [])))
ranges Print = (32, 126) ∷ []
ranges Graph = (33, 126) ∷ []
ranges Cntrl = (0, 31) ∷ ((127, 127) ∷ [])
ranges Xdigit = (48, 57) ∷ ((65, 70) ∷ ((97, 102) ∷ []))

abbrev pub Marks : List ℕ → List Range → Type 0
Marks t rs = (c : ℕ) → c < 256 → (InSome rs c → slice_index t c ≡ 1) × ((InSome rs c → ⊥) → slice_index t c ≡ 0)
