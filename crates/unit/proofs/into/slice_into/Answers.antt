use Rattle.header.specs.Short.{words_in}
use mathlib.Core.Path.{sym, ◌∙◌}
use lib.Seq.{length-take-le}
use Rattle.header.specs.Lead.{table_in}
use Rattle.unit.specs.Unit.{slice_bits}
use Rattle.unit.proofs.Opened.{written, opened, closed}
use Rattle.unit.proofs.Held.{slice_taken, none-taken}
use Rattle.unit.proofs.into.slice_into.Goals as goal

pub slice_bounds-read_header_into-end : goal.slice_bounds-read_header_into-end
slice_bounds-read_header_into-end c = written _ _ _ _ _ c.requires c.unescape_known.ensures.scratch_after (sym c.in-Ok.is ∙ c.unescape_known.ensures.value)

pub slice_bounds-read_header_into-end-in-Ok : goal.slice_bounds-read_header_into-end-in-Ok
slice_bounds-read_header_into-end-in-Ok c = sym (length-take-le _ _ (written _ _ _ _ _ c.requires c.unescape_known.ensures.scratch_after (sym c.in-Ok.is ∙ c.unescape_known.ensures.value)))

pub returns-in-Ok-clause-taken : goal.returns-in-Ok-clause-taken
returns-in-Ok-clause-taken c =
    let a = c.args in
    let u = c.unescape_known.ensures in
    let h = c.read_header_into.ensures in
    slice_taken _ _ _ (opened _ _ _ _ _ c.requires u.scratch_after (sym c.in-Ok.is ∙ u.value) (slice_bits (table_in a.sets) a.kind)) (words_in a.w.now) h.value h.words c.slice_short.ensures

pub returns-in-Err-clause-taken : goal.returns-in-Err-clause-taken
returns-in-Err-clause-taken c =
    let a = c.args in
    let u = c.unescape_known.ensures in
    λ b. none-taken _ (closed _ _ _ _ _ c.requires u.scratch_after (sym c.in-Err.is ∙ u.value) (slice_bits (table_in a.sets) a.kind)) _ _
