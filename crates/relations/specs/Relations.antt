-- Relations between states, a row of successors to each state, and their composition. Assumes nothing.
--
--   rows_of f        64 rows, f q at q
--   row r q          the states that q is related to
--   identity         each state is related to itself alone
--   composed a b     a and then b: q's row is the union of b's rows over the members of a's row of q
--   Composes a b r   the same by members: q is related to p if a leads to some state from which b leads to p
--   Associative      composing in either grouping gives one relation, for all relations
use Rattle.std.specs.Prelude.{◌≡◌, ℕ, ◌^◌, ◌<◌, ◌↔◌, List, map, slice_index}
use Rattle.std.specs.List.{range_with_len}
use Rattle.relations.specs.declared.relation.Relation.{Relation}
use Rattle.relations.specs.Masks.{Has, image}

unfoldable pub rows_of : (ℕ → ℕ) → List ℕ
rows_of f = map f (range_with_len 0 64)

abbrev pub row : Relation → ℕ → ℕ
row r q = slice_index r.rows q

abbrev pub composed : Relation → Relation → Relation
composed a b = record { rows = rows_of (λ q. image b.rows (row a q)) }

abbrev pub identity : Relation
identity = record { rows = rows_of (λ q. 2 ^ q) }

abbrev pub Composes : Relation → Relation → Relation → Type 0
Composes a b r = (q p : ℕ) → q < 64 → Has (row r q) p ↔ ((m : ℕ) × (m < 64) × Has (row a q) m × Has (row b m) p)

abbrev pub Associative : Type 0
Associative = (a b c : Relation) → composed (composed a b) c ≡ composed a (composed b c)
