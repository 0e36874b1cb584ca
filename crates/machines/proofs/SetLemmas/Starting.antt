-- Two texts make one map of sets exactly if they lead on to the same states, whatever text went before. Assumes nothing.
use Rattle.std.specs.List.{slice_get}
use Rattle.std.proofs.Common.{◌≡◌, ℕ, ◌<◌, ◌≤◌, List, [], ◌∷◌, ◌++◌, length, take, get_or, sym, ap, subst, ◌∙◌, append_assoc, arith, Some}
use Rattle.std.proofs.lemmas.List.{length-take-le, get_or-take, append-nil}
use Rattle.std.proofs.lemmas.Option.{slice_get-get_or}
use Rattle.folding.specs.Texts.{Bytes}
use Rattle.folding.proofs.Texts.{bytes_append}
use Rattle.notation.specs.Expressions.{Regex}
use Rattle.numbering.proofs.Counting.{unlike_by}
use Rattle.numbering.proofs.Listing.{contains_at}
use Rattle.numbering.proofs.Numbers.{numbering_laws}
use Rattle.numbering.specs.Reaching.{after}
use Rattle.starts.proofs.Leading.{led_append, led_below}
use Rattle.starts.proofs.Sending.{same_maps, made_at, made_push, made_none}
use Rattle.starts.specs.Automata.{led}
use Rattle.starts.specs.Maps.{identity, made, to, then_byte}
use Rattle.machines.specs.declared.place.tables.Tables.{Tables}
use Rattle.machines.specs.Place.Runs.{stepped, run}
use Rattle.machines.specs.Place.Tables.{TablesOf}
use Rattle.machines.specs.Reached.{SameStart}
use Rattle.machines.specs.Set.Runs.{moved_by}
use Rattle.machines.specs.Set.Shown.{moved_within}
use Rattle.machines.specs.Set.Starting.{StartsReached}
use Rattle.machines.specs.Set.Tables.{initial, SetTables, Simulates}
use Rattle.machines.specs.Soundness.{Sane}
use Rattle.machines.proofs.SetLemmas.Reaching.{after_run, same_states, same_mask}
use Rattle.machines.proofs.SetLemmas.Simulating.{same_led, led_set}
use Rattle.machines.proofs.SetLemmas.Tabling.{tables_simulate}

module _ (t : Tables) (n : ℕ) (sets moves : List ℕ) (tables : SetTables t n sets moves) where
  simulates : Simulates t n sets moves
  simulates = tables_simulate t n sets moves tables

  abbrev leads : List ℕ → ℕ → ℕ
  leads = led (moved_by moves)

  within : (s c : ℕ) → s < n → c < 256 → moved_by moves s c < n
  within = moved_within t n sets moves simulates

  below : (w : List ℕ) (s : ℕ) → Bytes w → s < n → leads w s < n
  below w s bytes low = led_below (moved_by moves) n within w s bytes low

  -- the set of the number that a text leads to from set 0
  set_of : (w : List ℕ) → Bytes w → get_or sets (leads w 0) 0 ≡ run t w initial
  set_of w bytes =
      ap (λ k. get_or sets k 0) (same_led t n sets moves simulates w 0 bytes simulates.0)
      ∙ (led_set t n sets moves simulates w 0 bytes simulates.0).1
      ∙ ap (run t w) simulates.4

  at_number : (s : ℕ) → s < n → slice_get (take n sets) s ≡ Some (get_or sets s 0)
  at_number s low =
      let all : length (take n sets) ≡ n = length-take-le n sets (let few = tables.few in let room = tables.room in omega arith) in
      slice_get-get_or (take n sets) s 0 (omega arith) ∙ ap Some (get_or-take n sets s 0 low)

  one_number : (i j : ℕ) → i < n → j < n → get_or sets i 0 ≡ get_or sets j 0 → i ≡ j
  one_number i j low low' same = tables.numbers.once i j _ (at_number i low) (at_number j low' ∙ ap Some (sym same))

  -- each set is reached
  reached : (s : ℕ) → s < n → (u : List ℕ) × Bytes u × (leads u 0 ≡ s)
  reached s low =
      let (u, bytes, is) = ((numbering_laws initial (stepped t)).reached (take n sets) tables.numbers (get_or sets s 0)).0 (contains_at (take n sets) s _ (at_number s low)) in
      (u, bytes, one_number _ s (below u 0 bytes simulates.0) low (set_of u bytes ∙ sym (after_run t u initial) ∙ sym is))

  few : n ≤ 64
  few = tables.few

  -- the map that the search comes to by a text is the map that the text makes
  after_made : (w v : List ℕ) → Bytes v → Bytes w → after (then_byte n (moved_by moves)) (made n (moved_by moves) v) w ≡ made n (moved_by moves) (v ++ w)
  unfolding after
  after_made [] v v_bytes bytes = ap (made n (moved_by moves)) (sym (append-nil v))
  after_made (c ∷ w) v v_bytes bytes =
      ap (λ m. after (then_byte n (moved_by moves)) m w) (made_push n (moved_by moves) few within v c v_bytes)
      ∙ after_made w (v ++ (c ∷ [])) (bytes_append v (c ∷ []) v_bytes (bytes.0, tt)) bytes.1
      ∙ ap (made n (moved_by moves)) (append_assoc v (c ∷ []) w)

  from_identity : (w : List ℕ) → Bytes w → after (then_byte n (moved_by moves)) (identity n) w ≡ made n (moved_by moves) w
  from_identity w bytes = ap (λ m. after (then_byte n (moved_by moves)) m w) (made_none n (moved_by moves)) ∙ after_made w [] tt bytes

  module _ (e : Regex) (sane : Sane e) (of : TablesOf e t) where
    same_start : (v w : List ℕ) → Bytes v → Bytes w → made n (moved_by moves) v ≡ made n (moved_by moves) w → SameStart e v w
    same_start v w v_bytes w_bytes same u bytes =
        let s = leads u 0 in
        let low = below u 0 bytes simulates.0 in
        let on : leads v s ≡ leads w s = sym (made_at n (moved_by moves) few within v s v_bytes low) ∙ ap (λ m. to m s) same ∙ made_at n (moved_by moves) few within w s w_bytes low in
        let one : leads (u ++ v) 0 ≡ leads (u ++ w) 0 = led_append (moved_by moves) u v 0 ∙ on ∙ sym (led_append (moved_by moves) u w 0) in
        let first = bytes_append u v bytes v_bytes in
        let second = bytes_append u w bytes w_bytes in
        same_states e sane t of (u ++ v) (u ++ w) first second (sym (set_of (u ++ v) first) ∙ ap (λ k. get_or sets k 0) one ∙ set_of (u ++ w) second)

    same_map : (v w : List ℕ) → Bytes v → Bytes w → SameStart e v w → made n (moved_by moves) v ≡ made n (moved_by moves) w
    same_map v w v_bytes w_bytes same =
        same_maps n (leads v) (leads w) (λ s low.
        let (u, bytes, is) = reached s low in
        let first = bytes_append u v bytes v_bytes in
        let second = bytes_append u w bytes w_bytes in
        let on : get_or sets (leads v (leads u 0)) 0 ≡ get_or sets (leads w (leads u 0)) 0 = ap (λ k. get_or sets k 0) (sym (led_append (moved_by moves) u v 0)) ∙ set_of (u ++ v) first ∙ same_mask e sane t of (u ++ v) (u ++ w) first second (same u bytes) ∙ sym (set_of (u ++ w) second) ∙ ap (λ k. get_or sets k 0) (led_append (moved_by moves) u w 0) in
        one_number (leads v s) (leads w s) (below v s v_bytes low) (below w s w_bytes low) (subst (λ k. get_or sets (leads v k) 0 ≡ get_or sets (leads w k) 0) is on))

  pub starts_reached : StartsReached t n moves
  starts_reached e sane of r = (
    λ more. unlike_by r _ _ (λ v w first second same. from_identity v first ∙ same_map e sane of v w first second same ∙ sym (from_identity w second)) more,
    λ more. unlike_by r _ _ (λ v w first second same. same_start e sane of v w first second (sym (from_identity v first) ∙ same ∙ from_identity w second)) more,
  )
