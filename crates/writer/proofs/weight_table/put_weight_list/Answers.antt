use mathlib.Core.Path.{◌∙◌}
use Rattle.writer.proofs.WeightLoop.{other-count, weighing-all, weighing-off, weighing-next}
use Rattle.writer.proofs.weight_table.put_weight_list.Goals as goal

pub returns-then-count-n : goal.returns-then-count-n
returns-then-count-n c = other-count _ _ _ _ _ _ c.requires c.if-count-n.true

pub returns-in_err-at : goal.returns-in_err-at
returns-in_err-at c = rw (c.from_residual.ensures, ← c.loop-i.invariant.1.0) (weighing-off _ _ _ _ _ c.loop-i.invariant.1.1 c.loop-i-test.true (rw c.weight_at-w.ensures at c.in_err-at.ensures))

pub loop-i-preserved : goal.loop-i-preserved
loop-i-preserved c = (c.put_weight.auto.d ∙ c.loop-i.invariant.0, (c.loop-i.invariant.1.0, weighing-next _ _ _ _ _ c.loop-i.invariant.1.1 c.loop-i-test.true (rw c.weight_at-w.ensures at c.in_ok-at.ensures)))

pub returns : goal.returns
returns c = rw (← c.loop-i.invariant.1.0) (weighing-all _ _ _ _ _ c.loop-i.invariant.1.1 c.loop-i-test.false)
