use mathlib.Core.Path.{sym}
use lib.Seq.{length-take-le}
use Rattle.cut.proofs.Tails.{tail-held, tail-bits}
use Rattle.front.proofs.SetBodies.{first-start}
use Rattle.front.proofs.sets.before_ids.Goals as goal

pub slice_bounds-local-end : goal.slice_bounds-local-end
slice_bounds-local-end c = (tail-held c.args.unit.now 1 0 c.tail_body-n.ensures.value c.tail_body-n.ensures.local_after).0

pub slice_bounds-picture_start-end : goal.slice_bounds-picture_start-end
slice_bounds-picture_start-end c = sym (length-take-le _ _ (tail-held c.args.unit.now 1 0 c.tail_body-n.ensures.value c.tail_body-n.ensures.local_after).0)

pub returns : goal.returns
returns c =
    let u = c.args.unit.now in
    rw (← first-start u, ← tail-bits u 1 0 (tail-held u 1 0 c.tail_body-n.ensures.value c.tail_body-n.ensures.local_after).1) c.picture_start.ensures
