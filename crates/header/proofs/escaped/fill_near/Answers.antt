use borrow.Author.Rules.{rules}
use mathlib.Core.Path.{sym}
use lib.Seq.{length-take-le}
use Rattle.cut.proofs.Firsts.{near-held, near-bits}
use Rattle.header.proofs.escaped.fill_near.Goals as goal

pub slice_bounds-local-end : goal.slice_bounds-local-end
slice_bounds-local-end c = (near-held c.args.unit.now 0 c.near_body-n.ensures.value c.near_body-n.ensures.local_after).0

pub slice_bounds-fill-end : goal.slice_bounds-fill-end
slice_bounds-fill-end c = sym (length-take-le _ _ (near-held c.args.unit.now 0 c.near_body-n.ensures.value c.near_body-n.ensures.local_after).0)

pub returns : goal.returns
returns c =
    let u = c.args.unit.now in
    let b = near-bits u 0 (near-held u 0 c.near_body-n.ensures.value c.near_body-n.ensures.local_after).1 in
    record { filled = rw (← b) c.fill.ensures.filled; kept = rw (← b) c.fill.ensures.kept; same = search rules }
