use mathlib.Core.Path.{sym, ◌∙◌}
use mir.Facts.{to_z-of_z}
use Rattle.writer.proofs.Fields.{given-there, given-absent, given-unfit}
use Rattle.writer.proofs.marks.put_given_signed.Goals as goal

pub returns-then-there : goal.returns-then-there
returns-then-there c = given-there _ _ _ _ _ c.if-there.true (rw (to_z-of_z c.ranges.v) at c.put_signed.ensures)

pub returns-then-is_zero : goal.returns-then-is_zero
returns-then-is_zero c = given-absent _ _ _ _ _ c.if-there.false (sym (rw (to_z-of_z c.ranges.v) at c.is_zero.ensures) ∙ c.if-is_zero.true)

pub returns-else-is_zero : goal.returns-else-is_zero
returns-else-is_zero c = given-unfit _ _ _ _ _ c.if-there.false (sym (rw (to_z-of_z c.ranges.v) at c.is_zero.ensures) ∙ c.if-is_zero.false)
