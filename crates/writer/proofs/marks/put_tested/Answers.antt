use borrow.Author.Tests.{le-leb, lt-leb}
use Rattle.fmt.proofs.Puts.{test-none}
use Rattle.writer.proofs.Stages.{no-bits, test-to}
use Rattle.writer.proofs.marks.put_tested.Goals as goal

pub returns-then-v-most : goal.returns-then-v-most
returns-then-v-most c = test-to _ _ _ _ _ (le-leb _ _ c.if-v-most.true) c.put_number.ensures

pub returns-else-v-most : goal.returns-else-v-most
returns-else-v-most c = no-bits _ _ (test-none _ _ _ _ _ (lt-leb _ _ c.if-v-most.false))
