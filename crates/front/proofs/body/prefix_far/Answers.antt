use native.Mathlib.Omega.{arith}
use mathlib.Core.Path.{sym}
use lib.Seq.{length-take-le}
use Rattle.cut.proofs.Fronts.{far-prefix}
use Rattle.cut.proofs.Firsts.{far-held, far-bits}
use Rattle.front.proofs.body.prefix_far.Goals as goal

pub slice_bounds-local-end : goal.slice_bounds-local-end
slice_bounds-local-end c = (far-held c.args.unit.now 4 c.far_body-n.ensures.value c.far_body-n.ensures.local_after).0

pub slice_bounds-prefix_into-end : goal.slice_bounds-prefix_into-end
slice_bounds-prefix_into-end c = sym (length-take-le _ _ (far-held c.args.unit.now 4 c.far_body-n.ensures.value c.far_body-n.ensures.local_after).0)

pub returns : goal.returns
returns c =
    let u = c.args.unit.now in
    let f = far-prefix u 4 (omega arith) c.args.kind in
    let e = far-bits u 4 (far-held u 4 c.far_body-n.ensures.value c.far_body-n.ensures.local_after).1 in
    let h = c.prefix_into.ensures in
    record { value = rw (← f, ← e) h.value; base_after = rw (← f, ← e) h.words_after }
