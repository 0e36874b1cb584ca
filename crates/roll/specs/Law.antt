-- The law over runs: two rolls left with the same slots and texts answer alike, whatever each met before. Assumes nothing.
--
--   Same M M'     the two sets have the same texts
--   Newest ..     the newest call of a run was this one, and was answered so
--   Alike         what holds of any two runs under two machines that mean the same
--   Law           what holds of every run under a machine, and of any two runs under two machines
use Rattle.std.specs.Prelude.{◌≡◌, ℕ, Bool, List, ◌∷◌, ◌++◌, map, None, Decides, Option}
use Rattle.folding.specs.Losing.{FirstLost}
use Rattle.folding.specs.Sets.{Hopeful}
use Rattle.folding.specs.Tallies.{tally}
use Rattle.folding.specs.Texts.{Bytes}
use Rattle.folding.specs.declared.tally.Tally.{Tally}
use Rattle.roll.specs.Calls.{Answer, judged, tallied, named}
use Rattle.roll.specs.Histories.{plain, held, Right, Due, asked}
use Rattle.roll.specs.Plain.{texts, whole}
use Rattle.roll.specs.Refusals as on
use Rattle.roll.specs.Refusals.{Call}
use Rattle.roll.specs.Runs.{Event, Turned, Run, Met}
use Rattle.roll.specs.Stands.{State, slots, Stands}
use Rattle.roll.specs.declared.roll.Roll.{Roll}

abbrev pub Same : (List ℕ → Type 0) → (List ℕ → Type 0) → Type 0
Same M M' = (w : List ℕ) → Bytes w → (M w → M' w) × (M' w → M w)

abbrev pub Newest : {L : Type 0} → (List ℕ → L) → (List ℕ → Type 0) → List Event → Call → Answer → Type 0
Newest {L} leg M h c a = (s : State L) × (e : Event) × Run leg M s (e ∷ h) × (e.call ≡ c) × (e.answer ≡ a)

pub record Alike {L K : Type 0} (leg : List ℕ → L) (M : List ℕ → Type 0) (leg' : List ℕ → K) (M' : List ℕ → Type 0) : Type 0 where
  -- what a roll has met makes no difference to what it answers from then on, save by the slots and texts left: the same calls, lent tables of
  -- the same lengths, are answered alike
  pub follows : (s : State L) (s' : State K) (h h' g g' : List Event) → Run leg M s (g ++ h) → Run leg' M' s' (g' ++ h') → plain h ≡ plain h' → map asked g ≡ map asked g' → g ≡ g'
  -- where the joined texts of two rolls are one text, the verdicts agree
  pub verdicts : (h h' : List Event) (b b' : Bool) → Newest leg M h on.verdict (judged b) → Newest leg' M' h' on.verdict (judged b') → whole (plain h) ≡ whole (plain h') → b ≡ b'

pub record Law {L K : Type 0} (leg : List ℕ → L) (M : List ℕ → Type 0) (leg' : List ℕ → K) (M' : List ℕ → Type 0) : Type 0 where
  -- call by call, every answer and refusal is the plain roll's
  pub answers : (s : State L) (h : List Event) → Run leg M s h → Right M h
  -- the roll and its cells are those of the slots and texts that the calls left
  pub stands : (s : State L) (h : List Event) → Run leg M s h → Stands leg s (plain h)
  -- a refused call leaves the roll and its cells as they were
  pub unchanged : (s lent is : State L) (c : Call) (a : Answer) → Turned leg M s lent c a is → is ≡ s
  -- two rolls under machines that mean the same are alike
  pub alike : Same M M' → Alike leg M leg' M'
  -- whatever cells, strips and machines were lent to whichever call, the refusals are those that the slots held and the lengths say
  pub refusals : (r : Roll) (h : List Event) → Met r h → (slots r ≡ held h) × Due h
  -- the verdict is yes exactly when the machine means the roll's joined text, and the totals are that text's
  pub verdict : (h : List Event) (b : Bool) → Newest leg M h on.verdict (judged b) → Decides b (M (whole (plain h)))
  pub totals : (h : List Event) (t : Tally) → Newest leg M h on.totals (tallied t) → t ≡ tally (whole (plain h))
  -- where the joined texts of two rolls are one text, the totals agree, whatever their machines mean
  pub sums : (h h' : List Event) (t t' : Tally) → Newest leg M h on.totals (tallied t) → Newest leg' M' h' on.totals (tallied t') → whole (plain h) ≡ whole (plain h') → t ≡ t'
  -- the culprit is the lowest slot after which every continuation is answered no
  pub culprit : (h : List Event) (c : Option ℕ) → Newest leg M h on.culprit (named c) → FirstLost M (texts (plain h)) c
  -- there is none exactly when the whole roll can still be continued to a yes
  pub none : (h : List Event) (c : Option ℕ) → Newest leg M h on.culprit (named c) → (c ≡ None → Hopeful M (whole (plain h))) × (Hopeful M (whole (plain h)) → c ≡ None)
