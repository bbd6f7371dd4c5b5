use mathlib.Core.Path.{◌∙◌}
use borrow.Author.Tests.{eq-eqb, ne_eqb}
use Rattle.syntax.specs.Lists.{operations_if}
use Rattle.writer.proofs.Entries.{none-held}
use Rattle.writer.proofs.Fields.{given-there, given-absent, given-unfit}
use Rattle.writer.proofs.operations.put_operations_if.Goals as goal

pub returns-then-there : goal.returns-then-there
unfolding operations_if
returns-then-there c = given-there _ _ _ _ _ c.if-there.true c.put_operations.ensures

pub returns-then-count-eq0 : goal.returns-then-count-eq0
unfolding operations_if
returns-then-count-eq0 c = given-absent _ _ _ _ _ c.if-there.false (none-held _ _ c.requires ∙ eq-eqb _ _ c.if-count-eq0.true)

pub returns-else-count-eq0 : goal.returns-else-count-eq0
unfolding operations_if
returns-else-count-eq0 c = given-unfit _ _ _ _ _ c.if-there.false (none-held _ _ c.requires ∙ ne_eqb _ _ c.if-count-eq0.false)
