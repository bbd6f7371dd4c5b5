use mathlib.Core.Path.{sym, ◌∙◌}
use mir.Facts.{to_z-of_z}
use Rattle.fmt.proofs.Puts.{test-none}
use Rattle.writer.proofs.Stages.{no-bits, test-to}
use Rattle.writer.proofs.marks.put_offset.Goals as goal

pub returns-then-offset_fits : goal.returns-then-offset_fits
returns-then-offset_fits c = test-to _ _ _ _ _ (sym (rw (to_z-of_z c.ranges.v) at c.offset_fits.ensures) ∙ c.if-offset_fits.true) (rw (to_z-of_z c.ranges.v) at c.put_signed.ensures)

pub returns-else-offset_fits : goal.returns-else-offset_fits
returns-else-offset_fits c = no-bits _ _ (test-none _ _ _ _ _ (sym (rw (to_z-of_z c.ranges.v) at c.offset_fits.ensures) ∙ c.if-offset_fits.false))
