-- The ways in which a group is read or refused. Assumes nothing.
use Rattle.std.proofs.Common.{◌≡◌, ℕ, suc, ◌+◌, ◌<◌, ◌≤◌, List, ◌∷◌, length, get_or, drop, sym, refl, ◌∙◌, subst, arith}
use Rattle.fault.specs.declared.Fault.{Fault}
use Rattle.fault.specs.declared.Refusal.TheVariants.{BadlyWritten}
use Rattle.notation.specs.Characters.{kind}
use Rattle.notation.specs.Expressions.{Regex}
use Rattle.notation.specs.Automaton.{Frame, ready, after, state, opened, closed, begin, outcome_of}
use Rattle.notation.specs.Refusals.{Stops, refused}
use Rattle.pattern.specs.Walks.{GroupRead, GroupStops, AlternativesRead, AlternativesStop}
use Rattle.pattern.proofs.Slices.{moves, stops_inside, stops_at, stopped}

module _ (p : List ℕ) (at : ℕ) (lt : at < length p) (paren : get_or p at 0 ≡ 40) where
  pub too_deep : (d : ℕ) (f : Fault) → d ≡ 0 → f ≡ refused BadlyWritten at → GroupStops p at d f
  too_deep d f none is fr ctx =
      stopped p f at _ is (omega arith) (stops_inside p at _ lt ((λ i. begin (kind (paren i)) (paren i) fr (none i) ctx)))

  module _ (k : ℕ) where
    opens : (fr : Frame) (ctx : List Frame) → outcome_of (state ready fr (suc k) ctx) (drop at p) ≡ outcome_of (state ready opened k (fr ∷ ctx)) (drop (at + 1) p)
    opens fr ctx = moves p at 40 _ _ lt paren refl

    pub inner_stops : (d : ℕ) (f : Fault) → d ≡ suc k → AlternativesStop p (at + 1) k f → GroupStops p at d f
    inner_stops d f is stop fr ctx = subst (λ n. Stops p f (outcome_of (state ready fr n ctx) (drop at p))) (sym is) (subst (Stops p f) (sym (opens fr ctx)) (stop (fr ∷ ctx)))

    pub unfinished : (d end : ℕ) (E : Regex → Type 0) (f : Fault) → d ≡ suc k → AlternativesRead p (at + 1) k end E → length p ≤ end → f ≡ refused BadlyWritten end → GroupStops p at d f
    unfinished d end E f is read ge fault fr ctx =
        subst (λ n. Stops p f (outcome_of (state ready fr n ctx) (drop at p))) (sym is)
        (stopped p f end _ fault read.within (opens fr ctx ∙ read.runs (fr ∷ ctx) ∙ stops_at p end _ read.within refl (λ inside. absurd (omega arith))))

    pub group_read : (d end : ℕ) (E : Regex → Type 0) → d ≡ suc k → AlternativesRead p (at + 1) k end E → end < length p → GroupRead p at d (end + 1) E
    group_read d end E is read inside =
        let before = read.forward in
        record {
          forward = omega arith;
          within = omega arith;
          expression = closed read.frame;
          value = read.value;
          runs = λ fr ctx.
              subst (λ n. outcome_of (state ready fr n ctx) (drop at p) ≡ outcome_of (state (after (closed read.frame)) fr n ctx) (drop (end + 1) p)) (sym is)
              (opens fr ctx ∙ read.runs (fr ∷ ctx) ∙ moves p end 41 _ (state (after (closed read.frame)) fr (suc k) ctx) inside (read.halts inside) refl);
        }
