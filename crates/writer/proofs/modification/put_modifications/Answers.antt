use mathlib.Core.Path.{refl}
use Rattle.fmt.specs.Fmt.{shaped, seq, test}
use Rattle.syntax.specs.SliceHeader.{not_scalable, modifications}
use Rattle.writer.proofs.Stages.{no-bits, on, off, shaped_to}
use Rattle.writer.proofs.Shapes.{not-scalable}
use Rattle.writer.proofs.modification.put_modifications.Goals as goal

pub returns-then-x : goal.returns-then-x
unfolding modifications not_scalable shaped seq test
returns-then-x c = no-bits _ _ (rw c.if-x.true)

pub returns-in_err-next : goal.returns-in_err-next
unfolding modifications
returns-in_err-next c = shaped_to _ _ _ _ _ refl (on _ _ _ _ (not-scalable _ c.if-x.false _ _) (off _ _ _ _ c.from_residual.ensures (rw (c.has_l0.ensures, c.flag_of-flag0.ensures) at c.in_err-next.ensures)))

pub returns : goal.returns
unfolding modifications
returns c = shaped_to _ _ _ _ _ refl (on _ _ _ _ (not-scalable _ c.if-x.false _ _) (on _ _ _ _ (rw (c.has_l0.ensures, c.flag_of-flag0.ensures) at c.in_ok-next.ensures) (rw (c.is_type.ensures, c.flag_of-flag1.ensures) at c.put_modification-2.ensures)))
