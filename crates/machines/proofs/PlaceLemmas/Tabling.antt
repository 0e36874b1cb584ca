-- Tables that represent a language over places. Assumes nothing.
use Rattle.std.proofs.Common.{ℕ, ◌<◌, ◌≤◌, ◌↔◌, List, [], ◌∷◌}
use Rattle.notation.specs.Expressions.{Regex, Symbol, Takes}
use Rattle.notation.specs.Meaning.{Lang}
use Rattle.notation.specs.Places.{places}
use Rattle.machines.specs.declared.place.tables.Tables.{Tables}
use Rattle.machines.specs.Place.Operations.{followers, takers}
use Rattle.relations.specs.Masks.{Has}
use Rattle.machines.specs.Place.Tables.{TablesOf}
use Rattle.machines.specs.Place.Spellings.{Place, Spelling, Spells, First, Ends, Follows, On}
use Rattle.machines.specs.Place.Shown.Spelling.{meant_spelled, spelled_meant}

pub record TablesFor (L : Lang (Place Symbol)) (t : Tables) : Type 0 where
  pub first : (p : ℕ) → Has (followers t 0) p ↔ ((s : Symbol) × First L (p, s))
  pub follow : (q p : ℕ) → 1 ≤ q → q < 64 → Has (followers t q) p ↔ ((s : Symbol) × (u : Symbol) × Follows L (q, s) (p, u))
  pub takes : (c p : ℕ) → c < 256 → Has (takers t c) p ↔ ((s : Symbol) × On L (p, s) × Takes s c)
  pub ends : (p : ℕ) → 1 ≤ p → Has t.accepts p ↔ ((s : Symbol) × Ends L (p, s))
  pub initial : Has t.accepts 0 ↔ L []

pub of_for : (e : Regex) (t : Tables) → places e ≤ 63 → TablesFor (Spelling e) t → TablesOf e t
of_for e t few f = record {
  few = few;
  first = f.first;
  follow = f.follow;
  takes = f.takes;
  ends = f.ends;
  initial = (λ h. spelled_meant Takes e [] ([], f.initial.0 h, tt), λ m. let s = meant_spelled Takes e [] m in f.initial.1 (none s.0 s.1 s.2));
}
  where
    none : (ps : List (Place Symbol)) → Spelling e ps → Spells {A = ℕ} Takes ps [] → Spelling e []
    none [] l h = l
    none (p ∷ ps) l h = absurd h

pub for_of : (e : Regex) (t : Tables) → TablesOf e t → TablesFor (Spelling e) t
for_of e t f = record {
  first = f.first;
  follow = f.follow;
  takes = f.takes;
  ends = f.ends;
  initial = (λ h. let s = meant_spelled Takes e [] (f.initial.0 h) in none s.0 s.1 s.2, λ l. f.initial.1 (spelled_meant Takes e [] ([], l, tt)));
}
  where
    none : (ps : List (Place Symbol)) → Spelling e ps → Spells {A = ℕ} Takes ps [] → Spelling e []
    none [] l h = l
    none (p ∷ ps) l h = absurd h
