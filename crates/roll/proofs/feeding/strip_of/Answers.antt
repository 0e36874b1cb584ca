use Rattle.std.proofs.Common.{◌≡◌, Ok, length, subst, arith}
use Rattle.roll.specs.Steps.{Feeds}
use Rattle.roll.proofs.feeding.strip_of.Goals as goal

pub returns : goal.returns
returns g c =
    let begun = c.begin-strip.ensures.begins in
    let fed = c.in_ok-feed.ensures.feeds in
    let all : c.in_ok-feed.field-0 ≡ length c.args.text.now = let none = begun.counted.count in let count = fed.cases.0 in omega arith in
    record { cases = (c.begin-strip.result, begun, subst (λ n. Feeds (g.M.Folding.leg c.args.machine.now) c.begin-strip.result c.args.text.now (Ok n) c.feed.new.strip) all fed) }
