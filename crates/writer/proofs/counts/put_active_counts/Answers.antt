use mathlib.Core.Path.{refl}
use Rattle.writer.proofs.Stages.{on, off, shaped_to}
use Rattle.syntax.specs.SliceHeader.{active_counts, active_minus1}
use Rattle.writer.proofs.counts.put_active_counts.Goals as goal

pub returns-in_err-c1 : goal.returns-in_err-c1
unfolding active_counts active_minus1
returns-in_err-c1 c = shaped_to _ _ _ _ _ refl (off _ _ _ _ c.from_residual.ensures (rw c.is_type-b.ensures at c.in_err-c1.ensures))

pub returns-in_err-c2 : goal.returns-in_err-c2
unfolding active_counts active_minus1
returns-in_err-c2 c = shaped_to _ _ _ _ _ refl (on _ _ _ _ (rw c.is_type-b.ensures at c.in_ok-c1.ensures) (off _ _ _ _ c.from_residual-in_err-c2.ensures (rw c.has_l0.ensures at c.in_err-c2.ensures)))

pub returns-in_err-c3 : goal.returns-in_err-c3
unfolding active_counts active_minus1
returns-in_err-c3 c = shaped_to _ _ _ _ _ refl (on _ _ _ _ (rw c.is_type-b.ensures at c.in_ok-c1.ensures) (on _ _ _ _ (rw c.has_l0.ensures at c.in_ok-c2.ensures) (off _ _ _ _ c.from_residual-in_err-c3.ensures c.in_err-c3.ensures)))

pub returns : goal.returns
unfolding active_counts active_minus1
returns c = shaped_to _ _ _ _ _ refl (on _ _ _ _ (rw c.is_type-b.ensures at c.in_ok-c1.ensures) (on _ _ _ _ (rw c.has_l0.ensures at c.in_ok-c2.ensures) (on _ _ _ _ c.in_ok-c3.ensures (rw (c.both.ensures, c.is_type-b.ensures) at c.put_tested_if-2.ensures))))
