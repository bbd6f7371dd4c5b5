use borrow.Author.Rules.{rules}
use native.Mathlib.Omega.{arith}
use mathlib.Core.Path.{sym}
use lib.Seq.{length-take-le}
use Rattle.header.specs.Lead.{table_in}
use Rattle.cut.proofs.Fronts.{far-header}
use Rattle.cut.proofs.Firsts.{far-held, far-bits}
use Rattle.header.proofs.escaped.fill_far.Goals as goal

pub slice_bounds-local-end : goal.slice_bounds-local-end
slice_bounds-local-end c = (far-held c.args.unit.now 0 c.far_body-n.ensures.value c.far_body-n.ensures.local_after).0

pub slice_bounds-fill-end : goal.slice_bounds-fill-end
slice_bounds-fill-end c = sym (length-take-le _ _ (far-held c.args.unit.now 0 c.far_body-n.ensures.value c.far_body-n.ensures.local_after).0)

pub returns : goal.returns
returns c =
    let a = c.args in
    let u = a.unit.now in
    record { filled = rw (← far-header u 0 (omega arith) (table_in a.sets) a.kind, ← far-bits u 0 (far-held u 0 c.far_body-n.ensures.value c.far_body-n.ensures.local_after).1) c.fill.ensures.filled; same = search rules }
