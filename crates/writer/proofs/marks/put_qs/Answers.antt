use mathlib.Core.Path.{sym, ◌∙◌}
use mir.Facts.{to_z-of_z}
use Rattle.fmt.proofs.Puts.{test-none}
use Rattle.writer.proofs.Stages.{no-bits, test-to}
use Rattle.writer.proofs.marks.put_qs.Goals as goal

pub returns-then-qs_fits : goal.returns-then-qs_fits
returns-then-qs_fits c = test-to _ _ _ _ _ (sym (rw (to_z-of_z c.ranges.v) at c.qs_fits.ensures) ∙ c.if-qs_fits.true) (rw (to_z-of_z c.ranges.v) at c.put_signed.ensures)

pub returns-else-qs_fits : goal.returns-else-qs_fits
returns-else-qs_fits c = no-bits _ _ (test-none _ _ _ _ _ (sym (rw (to_z-of_z c.ranges.v) at c.qs_fits.ensures) ∙ c.if-qs_fits.false))
