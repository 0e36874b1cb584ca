use Rattle.std.proofs.Common.{sym, subst}
use Rattle.std.proofs.lemmas.Option.{MatchOption-at_some}
use Rattle.machines.specs.Place.Tables.{TablesOf}
use Rattle.machines.proofs.PlaceLemmas.Lawful.{place_laws, built_for}
use Rattle.machines.proofs.PlaceLemmas.Parts.{few_tables}
use Rattle.machines.proofs.place.build.build.Goals as goal

pub returns-clause-built : goal.returns-clause-built
returns-clause-built c = record {
  read = c.assemble.ensures.granted;
  is = λ e written.
      let whole = c.unwrap-whole.result in
      let part = MatchOption-at_some _ _ _ c.unwrap-whole.ensures (c.assemble.ensures.value e written) in
      built_for e c.new.result.tables part.sane (subst (TablesOf e) (sym c.new.ensures.tables) (few_tables e whole.tables whole.count whole.small part));
}

pub returns-clause-laws : goal.returns-clause-laws
returns-clause-laws c = place_laws
