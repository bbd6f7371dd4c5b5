use mathlib.Core.Path.{refl}
use Rattle.writer.proofs.Stages.{on, off, shaped_to}
use Rattle.syntax.specs.SliceHeader.{order_count}
use Rattle.writer.proofs.order.put_order_count.Goals as goal

pub returns-in_err-c1 : goal.returns-in_err-c1
unfolding order_count
returns-in_err-c1 c = shaped_to _ _ _ _ _ refl (off _ _ _ _ c.from_residual.ensures c.in_err-c1.ensures)

pub returns-in_err-c2 : goal.returns-in_err-c2
unfolding order_count
returns-in_err-c2 c = shaped_to _ _ _ _ _ refl (on _ _ _ _ c.in_ok-c1.ensures (off _ _ _ _ c.from_residual-in_err-c2.ensures (rw (c.both.ensures, c.both-bottom.ensures) at c.in_err-c2.ensures)))

pub returns-in_err-c3 : goal.returns-in_err-c3
unfolding order_count
returns-in_err-c3 c = shaped_to _ _ _ _ _ refl (on _ _ _ _ c.in_ok-c1.ensures (on _ _ _ _ (rw (c.both.ensures, c.both-bottom.ensures) at c.in_ok-c2.ensures) (off _ _ _ _ c.from_residual-in_err-c3.ensures c.in_err-c3.ensures)))

pub returns : goal.returns
unfolding order_count
returns c = shaped_to _ _ _ _ _ refl (on _ _ _ _ c.in_ok-c1.ensures (on _ _ _ _ (rw (c.both.ensures, c.both-bottom.ensures) at c.in_ok-c2.ensures) (on _ _ _ _ c.in_ok-c3.ensures c.put_number_if.ensures)))
