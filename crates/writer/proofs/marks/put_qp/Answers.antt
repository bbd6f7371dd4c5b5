use mathlib.Core.Path.{sym, ◌∙◌}
use mir.Facts.{to_z-of_z}
use Rattle.fmt.proofs.Puts.{test-none}
use Rattle.writer.proofs.Stages.{no-bits, test-to}
use Rattle.writer.proofs.marks.put_qp.Goals as goal

pub returns-then-qp_fits : goal.returns-then-qp_fits
returns-then-qp_fits c = test-to _ _ _ _ _ (sym (rw (to_z-of_z c.ranges.v) at c.qp_fits.ensures) ∙ c.if-qp_fits.true) (rw (to_z-of_z c.ranges.v) at c.put_signed.ensures)

pub returns-else-qp_fits : goal.returns-else-qp_fits
returns-else-qp_fits c = no-bits _ _ (test-none _ _ _ _ _ (sym (rw (to_z-of_z c.ranges.v) at c.qp_fits.ensures) ∙ c.if-qp_fits.false))
