use mathlib.Core.Path.{refl}
use Rattle.syntax.specs.SliceHeader.{modification}
use Rattle.writer.proofs.Stages.{on, off, shaped_to}
use Rattle.writer.proofs.modification.put_modification.Goals as goal

pub returns-in_err-next : goal.returns-in_err-next
unfolding modification
returns-in_err-next c = shaped_to _ _ _ _ _ refl (off _ _ _ _ c.from_residual.ensures c.in_err-next.ensures)

pub returns : goal.returns
unfolding modification
returns c = shaped_to _ _ _ _ _ refl (on _ _ _ _ c.in_ok-next.ensures (rw c.modification_kind.ensures at c.put_operations_if.ensures))
