use mathlib.Core.Path.{sym, ◌∙◌}
use lib.Seq.{length-take-le}
use Rattle.unit.specs.Unit.{sequence_bits}
use Rattle.unit.proofs.Opened.{written, opened, closed}
use Rattle.unit.proofs.Held.{sequence-taken, none-taken}
use Rattle.unit.proofs.into.sequence_into.Goals as goal

pub slice_bounds-sequence_set-end : goal.slice_bounds-sequence_set-end
slice_bounds-sequence_set-end c = written _ _ _ _ _ c.requires c.unescape_known.ensures.scratch_after (sym c.in-Ok.is ∙ c.unescape_known.ensures.value)

pub slice_bounds-sequence_set-end-in-Ok : goal.slice_bounds-sequence_set-end-in-Ok
slice_bounds-sequence_set-end-in-Ok c = sym (length-take-le _ _ (written _ _ _ _ _ c.requires c.unescape_known.ensures.scratch_after (sym c.in-Ok.is ∙ c.unescape_known.ensures.value)))

pub returns-in-Ok : goal.returns-in-Ok
returns-in-Ok c =
    let u = c.unescape_known.ensures in
    sequence-taken _ (opened _ _ _ _ _ c.requires u.scratch_after (sym c.in-Ok.is ∙ u.value) sequence_bits) c.sequence_set.result c.sequence_set.ensures c.sequence_short.ensures

pub returns-in-Err : goal.returns-in-Err
returns-in-Err c =
    let u = c.unescape_known.ensures in
    λ w. none-taken _ (closed _ _ _ _ _ c.requires u.scratch_after (sym c.in-Err.is ∙ u.value) sequence_bits) _ _
