use Rattle.machines.specs.Place.Shown.Machine.{made_inhabited}
use Rattle.roll.proofs.Lawful.{lawful}
use Rattle.law.proofs.Meaning.{meant}
use Rattle.law.proofs.Wholly.{wholly}
use Rattle.law.proofs.start_machine_of.Goals as goal

pub returns-clause-over : goal.returns-clause-over
returns-clause-over g c = c.new.ensures.over

pub returns-clause-read : goal.returns-clause-read
returns-clause-read g c = c.requires.of.0

pub returns-clause-means : goal.returns-clause-means
returns-clause-means g c e read w bytes =
    let place = c.args.set.now.place in
    let under = c.new.ensures.built.means w bytes in
    let own = meant _ place.tables place.made c.requires.of e read w bytes in
    (λ m. own.0 (under.0 m), λ m. under.1 (own.1 m))

pub returns-clause-every : goal.returns-clause-every
returns-clause-every g c = record {
  place = λ p m of. meant p m.tables m.made of;
  set = λ p m of. meant p m.place.tables m.place.made of;
  start = λ p m of. let place = m.automaton.now.place in meant p place.tables place.made of;
}

pub returns-clause-law : goal.returns-clause-law
returns-clause-law g c m o = lawful _ _ _ _ (g.met.M.Judging.inhabited m)

pub returns-clause-whole : goal.returns-clause-whole
returns-clause-whole g c o =
    let under = c.new.result.automaton.now.place in
    wholly _ _ _ _ _ c.requires.of.0 (returns-clause-means g c) (made_inhabited under.tables under.made)
