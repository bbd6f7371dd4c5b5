use mathlib.Core.Path.{ap}
use mathlib.Core.Bool.{not}
use Rattle.writer.proofs.Fields.{given-there, given-absent, given-unfit}
use Rattle.writer.proofs.marks.put_given_flag.Goals as goal

pub returns-then-there : goal.returns-then-there
returns-then-there c = given-there _ _ _ _ _ c.if-there.true c.put_flag.ensures

pub returns-then-not-v : goal.returns-then-not-v
returns-then-not-v c = given-absent _ _ _ _ _ c.if-there.false (ap not c.if-not-v.true)

pub returns-else-not-v : goal.returns-else-not-v
returns-else-not-v c = given-unfit _ _ _ _ _ c.if-there.false (ap not c.if-not-v.false)
