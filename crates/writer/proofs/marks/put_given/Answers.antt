use borrow.Author.Tests.{eq-eqb, ne_eqb}
use Rattle.writer.proofs.Fields.{given-there, given-absent, given-unfit}
use Rattle.writer.proofs.marks.put_given.Goals as goal

pub returns-then-there : goal.returns-then-there
returns-then-there c = given-there _ _ _ _ _ c.if-there.true c.put_number.ensures

pub returns-then-v-eq0 : goal.returns-then-v-eq0
returns-then-v-eq0 c = given-absent _ _ _ _ _ c.if-there.false (eq-eqb _ _ c.if-v-eq0.true)

pub returns-else-v-eq0 : goal.returns-else-v-eq0
returns-else-v-eq0 c = given-unfit _ _ _ _ _ c.if-there.false (ne_eqb _ _ c.if-v-eq0.false)
