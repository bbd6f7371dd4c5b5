use mathlib.Core.Path.{sym}
use lib.Seq.{length-take-le}
use Rattle.cut.proofs.Firsts.{near-held, near-bits}
use Rattle.front.proofs.body.prefix_near.Goals as goal

pub slice_bounds-local-end : goal.slice_bounds-local-end
slice_bounds-local-end c = (near-held c.args.unit.now 4 c.near_body-n.ensures.value c.near_body-n.ensures.local_after).0

pub slice_bounds-prefix_into-end : goal.slice_bounds-prefix_into-end
slice_bounds-prefix_into-end c = sym (length-take-le _ _ (near-held c.args.unit.now 4 c.near_body-n.ensures.value c.near_body-n.ensures.local_after).0)

pub returns : goal.returns
returns c =
    let u = c.args.unit.now in
    let e = near-bits u 4 (near-held u 4 c.near_body-n.ensures.value c.near_body-n.ensures.local_after).1 in
    let h = c.prefix_into.ensures in
    record { value = rw (← e) h.value; base_after = rw (← e) h.words_after }
