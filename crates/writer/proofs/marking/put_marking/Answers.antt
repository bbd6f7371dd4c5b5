use mathlib.Core.Path.{refl}
use Rattle.syntax.specs.SliceHeader.{dec_ref_pic_marking}
use Rattle.writer.proofs.Stages.{on, off, shaped_to}
use Rattle.writer.proofs.marking.put_marking.Goals as goal

pub returns-in_err-c1 : goal.returns-in_err-c1
unfolding dec_ref_pic_marking
returns-in_err-c1 c = shaped_to _ _ _ _ _ refl (off _ _ _ _ c.from_residual.ensures (rw (c.both-idr.ensures, c.flag_of-no_output.ensures) at c.in_err-c1.ensures))

pub returns-in_err-c2 : goal.returns-in_err-c2
unfolding dec_ref_pic_marking
returns-in_err-c2 c = shaped_to _ _ _ _ _ refl (on _ _ _ _ (rw (c.both-idr.ensures, c.flag_of-no_output.ensures) at c.in_ok-c1.ensures) (off _ _ _ _ c.from_residual-in_err-c2.ensures (rw (c.both-idr.ensures, c.flag_of-long_term.ensures) at c.in_err-c2.ensures)))

pub returns-in_err-c3 : goal.returns-in_err-c3
unfolding dec_ref_pic_marking
returns-in_err-c3 c = shaped_to _ _ _ _ _ refl (on _ _ _ _ (rw (c.both-idr.ensures, c.flag_of-no_output.ensures) at c.in_ok-c1.ensures) (on _ _ _ _ (rw (c.both-idr.ensures, c.flag_of-long_term.ensures) at c.in_ok-c2.ensures) (off _ _ _ _ c.from_residual-in_err-c3.ensures (rw (c.both.ensures, c.flag_of-adaptive.ensures) at c.in_err-c3.ensures))))

pub returns : goal.returns
unfolding dec_ref_pic_marking
returns c = shaped_to _ _ _ _ _ refl (on _ _ _ _ (rw (c.both-idr.ensures, c.flag_of-no_output.ensures) at c.in_ok-c1.ensures) (on _ _ _ _ (rw (c.both-idr.ensures, c.flag_of-long_term.ensures) at c.in_ok-c2.ensures) (on _ _ _ _ (rw (c.both.ensures, c.flag_of-adaptive.ensures) at c.in_ok-c3.ensures) (rw (c.marking_kind.ensures, c.flag_of-adaptive.ensures) at c.put_operations_if.ensures))))
