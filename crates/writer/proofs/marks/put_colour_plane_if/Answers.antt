use Rattle.writer.proofs.Fields.{number-there, number-absent, number-unfit}
use Rattle.writer.proofs.marks.put_colour_plane_if.Goals as goal

pub returns-then-not-fitting : goal.returns-then-not-fitting
returns-then-not-fitting c = number-unfit _ _ _ c.fitting.ensures c.if-not-fitting.true

pub returns-then-there : goal.returns-then-there
returns-then-there c = number-there _ _ _ c.fitting.ensures c.if-not-fitting.false c.if-there.true c.put_colour_plane.ensures

pub returns-else-there : goal.returns-else-there
returns-else-there c = number-absent _ _ _ c.fitting.ensures c.if-not-fitting.false c.if-there.false
