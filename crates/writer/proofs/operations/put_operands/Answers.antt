use Rattle.syntax.specs.Lists.{operands}
use Rattle.writer.proofs.Stages.{on, off}
use Rattle.writer.proofs.operations.put_operands.Goals as goal

pub returns-in_err-next : goal.returns-in_err-next
unfolding operands
returns-in_err-next c = off _ _ _ _ c.from_residual.ensures (rw c.has_first.ensures at c.in_err-next.ensures)

pub returns : goal.returns
unfolding operands
returns c = on _ _ _ _ (rw c.has_first.ensures at c.in_ok-next.ensures) (rw c.has_second.ensures at c.put_given-2.ensures)
