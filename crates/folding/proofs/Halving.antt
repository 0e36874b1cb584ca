-- The search for the slot that loses the text, by halving. Assumes nothing.
use Rattle.std.proofs.Common.{◌≡◌, ℕ, ◌+◌, ◌-◌, ◌≤◌, List, ◌++◌, map, length, take, drop, Bool, true, false, sym, ap, ◌∙◌, subst, ⊎_elim, ◌⊎◌, append_assoc, arith, take-add}
use Rattle.std.proofs.ByRecursion.{All-take, All-drop}
use Rattle.std.proofs.lemmas.Bool.{cases_lt}
use Rattle.std.proofs.lemmas.List.{take-map, drop-map}
use Rattle.std.specs.Bool.{then_some}
use Rattle.std.specs.Prelude.{MatchBool}
use Rattle.folding.specs.Legs.{Folds}
use Rattle.folding.specs.Losing.{FirstLost}
use Rattle.folding.specs.Sets.{Hopeful, Lost}
use Rattle.folding.specs.Texts.{Bytes, AllBytes, together}
use Rattle.folding.proofs.Gathering.{bytes_upto}
use Rattle.folding.proofs.Texts.{bytes_append, bytes_together}
use Rattle.folding.proofs.Trees.{together_append}

abbrev pub front : List (List ℕ) → ℕ → List ℕ
front texts n = together (take n texts)

between : List (List ℕ) → ℕ → ℕ → List (List ℕ)
between texts a b = take (b - a) (drop a texts)

bytes_between : (texts : List (List ℕ)) (a b : ℕ) → AllBytes texts → AllBytes (between texts a b)
unfolding between
bytes_between texts a b bytes = All-take Bytes (b - a) (drop a texts) (All-drop Bytes a texts bytes)

front_on : (texts : List (List ℕ)) (a b : ℕ) → a ≤ b → front texts b ≡ front texts a ++ together (between texts a b)
unfolding between
front_on texts a b le =
    let on : b ≡ a + (b - a) = omega arith in
    ap (front texts) on ∙ ap together (take-add a (b - a) texts) ∙ together_append (take a texts) (between texts a b)

-- what can still be brought into the set could be before
hopeful_before : (M : List ℕ → Type 0) (texts : List (List ℕ)) (a b : ℕ) → AllBytes texts → a ≤ b → Hopeful M (front texts b) → Hopeful M (front texts a)
hopeful_before M texts a b bytes le h =
    let more : List ℕ = together (between texts a b) in (
      more ++ h.0,
      bytes_append more h.0 (bytes_together (between texts a b) (bytes_between texts a b bytes)) h.1,
      subst M (ap (λ w. w ++ h.0) (front_on texts a b le) ∙ append_assoc (front texts a) more h.0) h.2,
    )

-- no slot before `from` loses the text, and if one does, the slots before `to` have
pub record Halving {L : Type 0} (leg : List ℕ → L) (M : List ℕ → Type 0) (texts : List (List ℕ)) (from to : ℕ) (so_far : L) : Type 0 where
  pub leg_so_far : so_far ≡ leg (front texts from)
  pub hopeful : Hopeful M (front texts from)
  pub end : (to ≡ length texts) ⊎ Lost M (front texts to)

-- the leg of the slots before b
pub folded : {L : Type 0} (leg : List ℕ → L) (legs : List L) (texts : List (List ℕ)) (a b : ℕ) (so_far r : L) → AllBytes texts → legs ≡ map leg texts → a ≤ b → so_far ≡ leg (front texts a) → Folds leg so_far (take (b - a) (drop a legs)) r → r ≡ leg (front texts b)
unfolding between
folded leg legs texts a b so_far r bytes are le was folds =
    folds (front texts a) (between texts a b) (bytes_upto texts a bytes) (bytes_between texts a b bytes) was
    (ap (λ l. take (b - a) (drop a l)) are ∙ ap (take (b - a)) (drop-map leg a texts) ∙ take-map leg (b - a) (drop a texts))
    ∙ ap leg (sym (front_on texts a b le))

-- one slot is left, or none
pub halved : {L : Type 0} (leg : List ℕ → L) (M : List ℕ → Type 0) (texts : List (List ℕ)) (from to : ℕ) (so_far : L) (b : Bool) → AllBytes texts → Halving leg M texts from to so_far → from ≤ to → to ≤ from + 1 → to ≤ length texts → MatchBool b (Lost M (front texts to)) (Hopeful M (front texts to)) → FirstLost M texts (then_some b from)
halved leg M texts from to so_far true bytes h le few in' lost =
    ⊎_elim
    (λ lt.
    let next : to ≡ from + 1 = omega arith in (
      omega arith,
      subst (λ n. Lost M (front texts n)) next lost,
      λ s before. hopeful_before M texts (s + 1) from bytes (omega arith) h.hopeful,
    ))
    (λ none. absurd (clash (omega arith)))
    (cases_lt from to)
  where
    clash : from ≡ to → ⊥
    clash e = let a = subst (λ n. Hopeful M (front texts n)) e h.hopeful in lost a.0 a.1 a.2
halved leg M texts from to so_far false bytes h le few in' hopeful =
    ⊎_elim
    (λ all s lt. hopeful_before M texts (s + 1) to bytes (omega arith) hopeful)
    (λ lost. absurd (lost hopeful.0 hopeful.1 hopeful.2))
    h.end
