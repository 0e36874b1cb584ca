-- Maps of set numbers entry by entry, and that composing them is associative. Assumes nothing.
use Rattle.std.proofs.Common.{◌≡◌, ℕ, ◌%◌, ◌<◌, List, length, get_or, sym, ap, ◌∙◌, arith}
use denote.Param.Members.{Mut, Called}
use Rattle.std.specs.Array.{IsFromFnResult}
use Rattle.std.proofs.lemmas.List.FromFn.{length-map-range_with_len, get_or-map-range_with_len, fill_by_all}
use Rattle.relations.specs.Relations.{rows_of}
use Rattle.relations.proofs.Filling.{rows_made}
use Rattle.machines.specs.declared.set.map.SetMap.{SetMap}
use Rattle.machines.specs.Set.Maps.{map_of, to, composed, Associative}

pub length_map : (f : ℕ → ℕ) → length (map_of f) ≡ 64
unfolding map_of
length_map f = length-map-range_with_len f 0 64

pub map_at : (f : ℕ → ℕ) (s : ℕ) → s < 64 → get_or (map_of f) s 0 ≡ f s
unfolding map_of
map_at f s lt = get_or-map-range_with_len f 0 64 s s 0 lt (omega arith)

pub map_by : (f : ℕ → ℕ) (m : SetMap) → length m.to ≡ 64 → ((s : ℕ) → s < 64 → to m s ≡ f s) → m ≡ record { to = map_of f }
unfolding map_of
map_by f m long same i = record { to = fill_by_all f m.to 64 0 long same i }

pub same_maps : (f g : ℕ → ℕ) → ((s : ℕ) → s < 64 → f s ≡ g s) → ◌≡◌ {A = SetMap} (record { to = map_of f }) (record { to = map_of g })
same_maps f g same = map_by g (record { to = map_of f }) (length_map f) (λ s lt. map_at f s lt ∙ same s lt)

-- an entry to each number, by a function of it
module _ {F : Type 0} {g : Mut F (ℕ × Unit {0}) ℕ} {f : F} {ys : List ℕ} where
  pub map_made : (h : ℕ → ℕ) → IsFromFnResult g f ys 64 → ((i : ℕ) (y : ℕ) (q : F) → i < 64 → Called g f (i, tt) y q → q ≡ f) → ((i : ℕ) (y : ℕ) (q : F) → i < 64 → Called g f (i, tt) y q → y ≡ h (i % 64)) → ◌≡◌ {A = SetMap} (record { to = ys }) (record { to = map_of h })
  unfolding map_of rows_of
  map_made h made keeps gives i = record { to = rows_made h made keeps gives i }

pub associative : Associative
associative a b c low =
    same_maps (λ s. to c (to (composed a b) s)) (λ s. to (composed b c) (to a s))
    (λ s lt. ap (to c) (map_at (λ s. to b (to a s)) s lt) ∙ sym (map_at (λ s. to c (to b s)) (to a s) (low s)))
