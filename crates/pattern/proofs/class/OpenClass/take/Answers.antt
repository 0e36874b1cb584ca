use Rattle.std.proofs.Common.{refl}
use Rattle.pattern.proofs.ClassWays.{goes_inside, goes_complement, goes_end}
use Rattle.pattern.proofs.class.OpenClass.take.Goals as goal

pub returns-in-Complement : goal.returns-in-Complement
returns-in-Complement c = record {
  cases = λ s at.
      let (first, is, empty) = rw c.in-Complement.is at (c.in_ok-take.ensures.cases s at.suits) in
      goes_complement c.args.self.now _ _ s first is at.makes refl refl empty;
}

pub returns-then-can_end : goal.returns-then-can_end
returns-then-can_end c = record {
  cases = λ s at.
      let (is, suits) = rw c.in-Inside.is at (c.in_ok-take.ensures.cases s at.suits) in
      let makes = c.add.ensures.value s at.makes in
      goes_inside c.add.new.self _ _ c.take.new.self c.add.ensures.same is (c.if-can_end.ensures.value _ makes) makes suits;
}

pub returns-in-Ended : goal.returns-in-Ended
returns-in-Ended c = record { cases = λ s at. goes_end c.add-in-Ended.new.self _ _ (rw c.in-Ended.is at (c.in_ok-take.ensures.cases s at.suits)) (c.add-in-Ended.ensures.value s at.makes) }
