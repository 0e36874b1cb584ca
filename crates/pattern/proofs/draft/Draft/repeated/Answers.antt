use Rattle.std.proofs.Common.{rules, subst}
use Rattle.std.specs.Option.{IsSomeAnd}
use Rattle.pattern.proofs.Drafting.{branch_grows}
use Rattle.pattern.proofs.draft.Draft.repeated.Goals as goal

pub returns : goal.returns
returns g c = record {
  value = λ h repeats f fr (opens, atom).
      branch_grows g.T.Assembly.stands c.args.self.now _ (h f)
      (λ a held. c.then.ensures.value a (h f) held (repeats _ _ f (search rules) (subst (λ o. IsSomeAnd o (λ x. g.T.Assembly.stands x f)) c.unwrap-atom.ensures atom)))
      fr opens;
}
