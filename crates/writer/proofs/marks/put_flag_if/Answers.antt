use Rattle.writer.proofs.Fields.{flag-there, flag-absent, flag-unfit}
use Rattle.writer.proofs.marks.put_flag_if.Goals as goal

pub returns-then-not-fitting : goal.returns-then-not-fitting
returns-then-not-fitting c = flag-unfit _ _ c.fitting.ensures c.if-not-fitting.true

pub returns-then-there : goal.returns-then-there
returns-then-there c = flag-there _ _ c.fitting.ensures c.if-not-fitting.false c.if-there.true c.put_flag.ensures

pub returns-else-there : goal.returns-else-there
returns-else-there c = flag-absent _ _ c.fitting.ensures c.if-not-fitting.false c.if-there.false
