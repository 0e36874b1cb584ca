-- The tables of a numbering simulate the place machine. Assumes nothing.
use Rattle.std.proofs.Common.{◌≡◌, ℕ, ◌+◌, ◌*◌, ◌<◌, length, take, List, Some, get_or, sym, ap, subst, ◌∙◌, arith}
use Rattle.std.specs.List.{slice_get}
use Rattle.std.proofs.lemmas.List.{length-take, length-take-le, get_or-take}
use Rattle.std.proofs.lemmas.Option.{slice_get_within, get_or_from_slice_get}
use Rattle.machines.specs.declared.place.tables.Tables.{Tables}
use Rattle.machines.specs.Place.Runs.{stepped}
use Rattle.machines.specs.Set.Tables.{initial, SetTables, Simulates}

-- what stands among the first n of a list
front : (n : ℕ) (xs : List ℕ) (k x : ℕ) → slice_get (take n xs) k ≡ Some x → (k < n) × (get_or xs k 0 ≡ x)
front n xs k x e =
    let within = slice_get_within (take n xs) k x e in
    let low : k < n = omega (arith, length-take n xs) in
    (low, sym (get_or-take n xs k 0 low) ∙ get_or_from_slice_get (take n xs) k x 0 e)

pub tables_simulate : (t : Tables) (n : ℕ) (sets moves : List ℕ) → SetTables t n sets moves → Simulates t n sets moves
tables_simulate t n sets moves tables = (first.0, tables.few, tables.room, tables.rows, first.1, leads)
  where
    first : (0 < n) × (get_or sets 0 0 ≡ initial)
    first = front n sets 0 initial tables.numbers.begins

    all : length (take n sets) ≡ n
    all = length-take-le n sets (let few = tables.few in let room = tables.room in omega arith)

    leads : (s c : ℕ) → s < n → c < 256 → (get_or moves (256 * s + c) 0 < n) × (get_or sets (get_or moves (256 * s + c) 0) 0 ≡ stepped t (get_or sets s 0) c)
    leads s c low byte =
        let (k, moved, l) = tables.moved s c (subst (λ m. s < m) (sym all) low) byte in
        let (within, is) = front n sets k (stepped t l.point c) l.to in
        subst (λ j. (j < n) × (get_or sets j 0 ≡ stepped t (get_or sets s 0) c)) (sym (front (256 * n) moves (256 * s + c) k moved).1)
        (within, is ∙ ap (λ p. stepped t p c) (sym (front n sets s l.point l.from).1))
