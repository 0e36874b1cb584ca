-- The law over runs. Assumes that each machine's set has a member.
use Rattle.std.proofs.Common.{◌≡◌, ℕ, zero, suc, ◌+◌, Bool, List, [], ◌++◌, length, take, drop, Some, None, Decides, Option, sym, refl, ap, ◌∙◌, subst, subst₂, append_assoc, arith, take-append-drop, MatchOption}
use Rattle.std.proofs.ByRecursion.{All-drop}
use Rattle.std.proofs.lemmas.List.{take_all, nil_from_length}
use Rattle.std.proofs.lemmas.Bool.Decides.{same_from_decides, Decides-like}
use Rattle.fault.specs.declared.Fault.{Fault}
use Rattle.folding.specs.Losing.{upto, FirstLost}
use Rattle.folding.specs.Sets.{Hopeful}
use Rattle.folding.specs.Tallies.{tally}
use Rattle.folding.specs.Texts.{Bytes, AllBytes, together}
use Rattle.folding.specs.declared.tally.Tally.{Tally}
use Rattle.folding.proofs.Texts.{bytes_append, bytes_together}
use Rattle.folding.proofs.Trees.{together_append}
use Rattle.roll.specs.Calls.{Answer, judged, tallied, named, refused, Gives, Answers}
use Rattle.roll.specs.Histories.{plain}
use Rattle.roll.specs.Law.{Same, Newest, Alike, Law}
use Rattle.roll.specs.Plain.{Plain, texts, whole, marks}
use Rattle.roll.specs.Refusals.{Call, verdict, totals, culprit, refusal}
use Rattle.roll.specs.Runs.{Event}
use Rattle.roll.specs.Steps.{fault_of}
use Rattle.roll.proofs.Granting.{not_refused}
use Rattle.roll.proofs.Following.{following}
use Rattle.roll.proofs.Meeting.{meeting}
use Rattle.roll.proofs.Tracing.{turned_same, traced}

-- an answer that is no refusal is given by the plain roll
pub given : (M : List ℕ → Type 0) (p : Plain) (c : Call) (l t : ℕ) (a : Answer) → fault_of a ≡ None → Answers M p c l t a → Gives M p c a
given M p c l t a free says = go (refusal (marks p) c l t) says
  where
    go : (o : Option Fault) → MatchOption o (Gives M p c a) (λ f. a ≡ refused f) → Gives M p c a
    go None gives = gives
    go (Some f) e = absurd (not_refused a f free e)

module _ {L : Type 0} (leg : List ℕ → L) (M : List ℕ → Type 0) where
  newest : (h : List Event) (c : Call) (a : Answer) → fault_of a ≡ None → Newest leg M h c a → Gives M (plain h) c a × AllBytes (texts (plain h))
  newest h c a free n =
      let e = n.1 in
      let tr = traced leg M n.2 in
      let says : Answers M (plain h) c e.legs e.tallies a = subst₂ (λ x y. Answers M (plain h) x e.legs e.tallies y) n.3 n.4 tr.right.1 in
      (given M (plain h) c e.legs e.tallies a free says, tr.bytes.0)

  pub verdict_is : (h : List Event) (b : Bool) → Newest leg M h verdict (judged b) → Decides b (M (whole (plain h)))
  verdict_is h b n =
      let gives = (newest h verdict (judged b) refl n).0 in
      let same : b ≡ gives.0 = judged_same b gives.0 gives.1 in
      subst (λ x. Decides x (M (whole (plain h)))) (sym same) gives.2
    where
      judged_same : (x y : Bool) → judged x ≡ judged y → x ≡ y
      judged_same x y e = cc

  pub totals_are : (h : List Event) (t : Tally) → Newest leg M h totals (tallied t) → t ≡ tally (whole (plain h))
  totals_are h t n = tallied_same t _ (newest h totals (tallied t) refl n).0
    where
      tallied_same : (x y : Tally) → tallied x ≡ tallied y → x ≡ y
      tallied_same x y e = cc

  pub culprit_is : (h : List Event) (c : Option ℕ) → Newest leg M h culprit (named c) → FirstLost M (texts (plain h)) c
  culprit_is h c n =
      let gives = (newest h culprit (named c) refl n).0 in
      subst (FirstLost M (texts (plain h))) (sym (named_same c gives.0 gives.1)) gives.2
    where
      named_same : (x y : Option ℕ) → named x ≡ named y → x ≡ y
      named_same x y e = cc

  pub whole_bytes : (h : List Event) (c : Call) (a : Answer) → fault_of a ≡ None → Newest leg M h c a → Bytes (whole (plain h))
  whole_bytes h c a free n = bytes_together (texts (plain h)) (newest h c a free n).1

-- none is named exactly when some text that follows the whole could lead to a yes
module _ (M : List ℕ → Type 0) (some : Hopeful M []) (ts : List (List ℕ)) (bytes : AllBytes ts) where
  upto_all : (n : ℕ) → length ts ≡ suc n → upto ts n ≡ together ts
  upto_all n long = ap together (take_all (n + 1) ts (omega arith))

  none_hopeful : (n : ℕ) → length ts ≡ n → FirstLost M ts None → Hopeful M (together ts)
  none_hopeful zero long none = subst (λ l. Hopeful M (together l)) (sym (nil_from_length ts long)) some
  none_hopeful (suc n) long none = subst (Hopeful M) (upto_all n long) (none n (omega arith))

  hopeful_none : (c : Option ℕ) → FirstLost M ts c → Hopeful M (together ts) → c ≡ None
  hopeful_none None first hope = refl
  hopeful_none (Some c) first hope =
      let rest = together (drop (c + 1) ts) in
      let split : together ts ≡ upto ts c ++ rest = ap together (sym (take-append-drop (c + 1) ts)) ∙ together_append (take (c + 1) ts) (drop (c + 1) ts) in
      absurd (first.1 (rest ++ hope.0)
      (bytes_append rest hope.0 (bytes_together (drop (c + 1) ts) (All-drop Bytes (c + 1) ts bytes)) hope.1)
      (subst M (ap (λ w. w ++ hope.0) split ∙ append_assoc (upto ts c) rest hope.0) hope.2))

  pub none_exactly : (c : Option ℕ) → FirstLost M ts c → (c ≡ None → Hopeful M (together ts)) × (Hopeful M (together ts) → c ≡ None)
  none_exactly c first = (λ e. none_hopeful (length ts) refl (subst (FirstLost M ts) e first), hopeful_none c first)

alike : {L K : Type 0} (leg : List ℕ → L) (M : List ℕ → Type 0) (leg' : List ℕ → K) (M' : List ℕ → Type 0) → Same M M' → Alike leg M leg' M'
alike leg M leg' M' same = record {
  follows = λ s s' h h' g g' run run' left asks.
      let here = traced leg M run in
      (following M M' same g g' h h' here.right (traced leg' M' run').right here.bytes left asks).0;
  verdicts = λ h h' b b' n n' e.
      let sets = same (whole (plain h)) (whole_bytes leg M h verdict (judged b) refl n) in
      same_from_decides b b' (verdict_is leg M h b n)
      (Decides-like b' sets.1 sets.0 (subst (λ w. Decides b' (M' w)) (sym e) (verdict_is leg' M' h' b' n')));
}

pub lawful : {L K : Type 0} (leg : List ℕ → L) (M : List ℕ → Type 0) (leg' : List ℕ → K) (M' : List ℕ → Type 0) → Hopeful M [] → Law leg M leg' M'
lawful leg M leg' M' some = record {
  answers = λ s h run. (traced leg M run).right;
  stands = λ s h run. (traced leg M run).stands;
  unchanged = λ s lent is c a turned. turned_same leg M turned;
  alike = alike leg M leg' M';
  refusals = λ r h met. meeting met;
  verdict = verdict_is leg M;
  totals = totals_are leg M;
  sums = λ h h' t t' n n' e. totals_are leg M h t n ∙ ap tally e ∙ sym (totals_are leg' M' h' t' n');
  culprit = culprit_is leg M;
  none = λ h c n. none_exactly M some (texts (plain h)) (newest leg M h culprit (named c) refl n).1 c (culprit_is leg M h c n);
}
