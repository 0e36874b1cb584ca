use Rattle.std.proofs.Common.{◌≡◌, ℕ, ◌+◌, ◌-◌, ◌/◌, List, length, map, ap, ◌∙◌, arith, inr}
use lib.ListN.{length-map}
use Rattle.std.specs.Bool.{then_some}
use Rattle.folding.specs.Texts.{AllBytes}
use Rattle.folding.proofs.Gathering.{bytes_upto}
use Rattle.folding.proofs.Halving.{front, folded, halved}
use Rattle.folding.proofs.cells.first_lost.Given as given
use Rattle.folding.proofs.cells.first_lost.Goals as goal
use Rattle.folding.proofs.cells.first_lost.Goals.{After-fold-next}

-- the leg of the slots before the middle
next : (g : given.Over) (c : After-fold-next g) (texts : List (List ℕ)) → AllBytes texts → c.leaves-legs.result.now ≡ map (g.M.Folding.leg c.args.machine.now) texts
    → c.fold-next.result ≡ g.M.Folding.leg c.args.machine.now (front texts (c.loop-to.from + (c.loop-to.to - c.loop-to.from) / 2))
next g c texts bytes are =
    folded (g.M.Folding.leg c.args.machine.now) _ texts c.loop-to.from (c.loop-to.from + (c.loop-to.to - c.loop-to.from) / 2) _ _ bytes are (omega arith) (c.loop-to.invariant.2 texts bytes are).leg_so_far c.fold-next.ensures.folds

pub loop-to-preserved-then-lost : goal.loop-to-preserved-then-lost
loop-to-preserved-then-lost g c =
    let long = c.loop-to.invariant.1 in (
      omega arith,
      omega arith,
      λ texts bytes are.
          let h = c.loop-to.invariant.2 texts bytes are in
          record {
            leg_so_far = h.leg_so_far;
            hopeful = h.hopeful;
            end = inr (c.if-lost.ensures.cases _ (bytes_upto texts _ bytes) (next g (goal.at.loop-to-preserved-then-lost g c).After-fold-next texts bytes are));
          },
    )

pub loop-to-preserved : goal.loop-to-preserved
loop-to-preserved g c = (
  omega arith,
  c.loop-to.invariant.1,
  λ texts bytes are.
      let leg_middle = next g (goal.at.loop-to-preserved g c).After-fold-next texts bytes are in
      record {
        leg_so_far = leg_middle;
        hopeful = c.if-lost.ensures.cases _ (bytes_upto texts _ bytes) leg_middle;
        end = (c.loop-to.invariant.2 texts bytes are).end;
      },
)

pub returns : goal.returns
returns g c = record {
  value = λ texts bytes slotted.
      let are = c.leaves-legs.ensures.value ∙ slotted in
      let size = ap length are ∙ length-map texts _ in
      let in' = c.loop-to.invariant.1 in
      let few = c.loop-to-test.false in
      let h = c.loop-to.invariant.2 texts bytes are in
      let all = folded _ _ texts c.loop-to.from c.loop-to.to _ _ bytes are c.loop-to.invariant.0 h.leg_so_far c.fold-all.ensures.folds in
      let answer : c.then_some.result ≡ then_some c.lost-2.result c.loop-to.from = c.then_some.ensures in
      rw answer
      (halved _ _ texts c.loop-to.from c.loop-to.to _ _ bytes h c.loop-to.invariant.0 (omega arith) (omega arith) (c.lost-2.ensures.cases _ (bytes_upto texts _ bytes) all));
}
