use mathlib.Core.Path.{◌∙◌}
use Rattle.writer.proofs.OperationLoop.{listing-closed, listing-closes, listing-off, listing-off-operand, listing-next}
use Rattle.writer.proofs.operations.put_operations.Goals as goal

pub returns-then-code-kind : goal.returns-then-code-kind
returns-then-code-kind c = listing-closes _ _ _ _ _ c.loop-i.invariant.1 c.loop-i-test.true c.if-code-kind.true

pub returns-in_err-next : goal.returns-in_err-next
returns-in_err-next c = rw c.from_residual.ensures (listing-off _ _ _ _ _ c.loop-i.invariant.1 c.loop-i-test.true c.if-code-kind.false c.in_err-next.ensures)

pub returns-in_err-at : goal.returns-in_err-at
returns-in_err-at c = rw c.from_residual-in_err-at.ensures (listing-off-operand _ _ _ _ _ c.loop-i.invariant.1 c.loop-i-test.true c.if-code-kind.false c.in_ok-next.ensures c.in_err-at.ensures)

pub loop-i-preserved : goal.loop-i-preserved
loop-i-preserved c = (c.put_operands.auto.d ∙ c.put_tested.auto.d ∙ c.loop-i.invariant.0, listing-next _ _ _ _ _ c.loop-i.invariant.1 c.loop-i-test.true c.if-code-kind.false c.in_ok-next.ensures c.in_ok-at.ensures)

pub returns : goal.returns
returns c = listing-closed _ _ _ _ _ c.loop-i.invariant.1 c.loop-i-test.false c.put_tested-2.ensures
