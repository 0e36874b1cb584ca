-- The tables of an expression from those of its parts: the laws of first, last and follow sets, by members. Only private functions cite it. Assumes nothing.
--
--   followers t q      row q of `follow`: the places that come after the state q
--   takers t c         row c of `takes`: the places that take the byte c
--   TablesBy r R T A   r has p in row q where R q p, among the takers of c where T c p, among the accepting states where A p
--   Later n a r        a's places, each n numbers later; LaterRow n a q p: p is in row q
--   Then a b r         a and then b, whose places come later: b's first places come after each state at which a accepts;
--                      ThenRow a b q p
--   Either a b r       a or b, whose places come later
--   Star a r           a any number of times: its first places come after each state at which it accepts; StarRow a q p
--   Optional a r       a or nothing
use Rattle.std.specs.Prelude.{◌≡◌, ℕ, ◌-◌, ◌<◌, ◌≤◌, ◌⊎◌, ◌↔◌, slice_index}
use Rattle.machines.specs.declared.place.tables.Tables.{Tables}
use Rattle.relations.specs.Masks.{Has, LaterIn}

abbrev pub followers : Tables → ℕ → ℕ
followers t q = slice_index t.follow q

abbrev pub takers : Tables → ℕ → ℕ
takers t c = slice_index t.takes c

pub record TablesBy (r : Tables) (R T : ℕ → ℕ → Type 0) (A : ℕ → Type 0) : Type 0 where
  pub rows : (q p : ℕ) → q < 64 → Has (followers r q) p ↔ R q p
  pub takes : (c p : ℕ) → c < 256 → Has (takers r c) p ↔ T c p
  pub accepts : (p : ℕ) → Has r.accepts p ↔ A p

abbrev pub LaterRow : ℕ → Tables → ℕ → ℕ → Type 0
LaterRow n a q p = ((q ≡ 0) ⊎ (n < q)) × LaterIn n (followers a (q - n)) p

abbrev pub Later : ℕ → Tables → Tables → Type 0
Later n a r =
    TablesBy r
    (LaterRow n a)
    (λ c p. LaterIn n (takers a c) p)
    (λ p. ((p ≡ 0) × Has a.accepts 0) ⊎ LaterIn n a.accepts p)

abbrev pub ThenRow : Tables → Tables → ℕ → ℕ → Type 0
ThenRow a b q p = Has (followers a q) p ⊎ ((Has a.accepts q × Has (followers b 0) p) ⊎ ((1 ≤ q) × Has (followers b q) p))

abbrev pub Then : Tables → Tables → Tables → Type 0
Then a b r =
    TablesBy r
    (ThenRow a b)
    (λ c p. Has (takers a c) p ⊎ Has (takers b c) p)
    (λ p. ((1 ≤ p) × Has b.accepts p) ⊎ (Has b.accepts 0 × Has a.accepts p))

abbrev pub Either : Tables → Tables → Tables → Type 0
Either a b r =
    TablesBy r
    (λ q p. Has (followers a q) p ⊎ Has (followers b q) p)
    (λ c p. Has (takers a c) p ⊎ Has (takers b c) p)
    (λ p. Has a.accepts p ⊎ Has b.accepts p)

abbrev pub StarRow : Tables → ℕ → ℕ → Type 0
StarRow a q p = Has (followers a q) p ⊎ (Has a.accepts q × Has (followers a 0) p)

abbrev pub Star : Tables → Tables → Type 0
Star a r =
    TablesBy r
    (StarRow a)
    (λ c p. Has (takers a c) p)
    (λ p. Has a.accepts p ⊎ (p ≡ 0))

abbrev pub Optional : Tables → Tables → Type 0
Optional a r =
    TablesBy r
    (λ q p. Has (followers a q) p)
    (λ c p. Has (takers a c) p)
    (λ p. Has a.accepts p ⊎ (p ≡ 0))
