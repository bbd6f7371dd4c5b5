use mathlib.Core.Path.{sym, ◌∙◌}
use lib.Seq.{length-take-le}
use Rattle.unit.specs.Unit.{prefix_bits}
use Rattle.unit.proofs.Opened.{written, opened, closed}
use Rattle.unit.proofs.Held.{body-taken, none-taken}
use Rattle.unit.proofs.into.body_into.Goals as goal

pub slice_bounds-prefix_into-end : goal.slice_bounds-prefix_into-end
slice_bounds-prefix_into-end c = written _ _ _ _ _ c.requires c.unescape_known.ensures.scratch_after (sym c.in-Ok.is ∙ c.unescape_known.ensures.value)

pub slice_bounds-prefix_into-end-in-Ok : goal.slice_bounds-prefix_into-end-in-Ok
slice_bounds-prefix_into-end-in-Ok c = sym (length-take-le _ _ (written _ _ _ _ _ c.requires c.unescape_known.ensures.scratch_after (sym c.in-Ok.is ∙ c.unescape_known.ensures.value)))

pub returns-in-Ok : goal.returns-in-Ok
returns-in-Ok c =
    let a = c.args in
    let u = c.unescape_known.ensures in
    let p = c.prefix_into.ensures in
    body-taken _ _ (opened _ _ _ _ _ c.requires u.scratch_after (sym c.in-Ok.is ∙ u.value) (prefix_bits a.kind)) a.base.now p.value p.words_after c.body_short.ensures

pub returns-in-Err : goal.returns-in-Err
returns-in-Err c =
    let u = c.unescape_known.ensures in
    λ h. none-taken _ (closed _ _ _ _ _ c.requires u.scratch_after (sym c.in-Err.is ∙ u.value) (prefix_bits c.args.kind)) _ _
