use mathlib.Core.Path.{sym}
use lib.Seq.{length-take-le}
use Rattle.cut.proofs.Firsts.{far-held, far-bits}
use Rattle.front.proofs.SetBodies.{far-sequence}
use Rattle.front.proofs.sets.sequence_body.Goals as goal

pub slice_bounds-local-end : goal.slice_bounds-local-end
slice_bounds-local-end c = (far-held c.args.unit.now 1 c.far_body-n.ensures.value c.far_body-n.ensures.local_after).0

pub slice_bounds-sequence_set-end : goal.slice_bounds-sequence_set-end
slice_bounds-sequence_set-end c = sym (length-take-le _ _ (far-held c.args.unit.now 1 c.far_body-n.ensures.value c.far_body-n.ensures.local_after).0)

pub returns : goal.returns
returns c =
    let u = c.args.unit.now in
    rw (← far-sequence u, ← far-bits u 1 (far-held u 1 c.far_body-n.ensures.value c.far_body-n.ensures.local_after).1) c.sequence_set.ensures
