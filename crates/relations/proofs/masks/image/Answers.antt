use Rattle.relations.proofs.Images.{left_more, left_all, image_by}
use Rattle.relations.proofs.masks.image.Goals as goal

pub loop-rest-preserved : goal.loop-rest-preserved
loop-rest-preserved c =
    rw (c.single-rest.ensures.value, c.from.ensures.0)
    (left_more c.args.rows.now c.args.set c.loop-rest.rest c.loop-rest.all c.lowest-q.result c.lowest-q.ensures.value.member c.loop-rest.invariant).0

pub loop-rest-smaller : goal.loop-rest-smaller
loop-rest-smaller c =
    rw c.single-rest.ensures.value
    (left_more c.args.rows.now c.args.set c.loop-rest.rest c.loop-rest.all c.lowest-q.result c.lowest-q.ensures.value.member c.loop-rest.invariant).1

pub returns : goal.returns
returns c =
    let all = left_all c.args.rows.now c.args.set c.loop-rest.rest c.loop-rest.all c.loop-rest-test.false c.loop-rest.invariant in
    record { value = all; members = image_by c.args.rows.now c.args.set c.loop-rest.all all }
