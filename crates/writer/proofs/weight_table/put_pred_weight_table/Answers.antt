use mathlib.Core.Path.{refl}
use Rattle.syntax.specs.SliceHeader.{pred_weight_table}
use Rattle.writer.proofs.Stages.{on, off, shaped_to}
use Rattle.writer.proofs.Shapes.{number-when}
use Rattle.writer.proofs.weight_table.put_pred_weight_table.Goals as goal

pub returns-in_err-c1 : goal.returns-in_err-c1
unfolding pred_weight_table
returns-in_err-c1 c = shaped_to _ _ _ _ _ refl (off _ _ _ _ c.from_residual.ensures (number-when _ _ _ (rw (c.is_weighted-weighted.ensures, c.number_of-luma_denom.ensures) at c.in_err-c1.ensures)))

pub returns-in_err-c2 : goal.returns-in_err-c2
unfolding pred_weight_table
returns-in_err-c2 c = shaped_to _ _ _ _ _ refl (on _ _ _ _ (number-when _ _ _ (rw (c.is_weighted-weighted.ensures, c.number_of-luma_denom.ensures) at c.in_ok-c1.ensures)) (off _ _ _ _ c.from_residual-in_err-c2.ensures (rw (c.both.ensures, c.is_weighted-weighted.ensures, c.has_chroma-chroma.ensures, c.number_of-chroma_denom.ensures) at c.in_err-c2.ensures)))

pub returns-in_err-c3 : goal.returns-in_err-c3
unfolding pred_weight_table
returns-in_err-c3 c = shaped_to _ _ _ _ _ refl (on _ _ _ _ (number-when _ _ _ (rw (c.is_weighted-weighted.ensures, c.number_of-luma_denom.ensures) at c.in_ok-c1.ensures)) (on _ _ _ _ (rw (c.both.ensures, c.is_weighted-weighted.ensures, c.has_chroma-chroma.ensures, c.number_of-chroma_denom.ensures) at c.in_ok-c2.ensures) (off _ _ _ _ c.from_residual-in_err-c3.ensures (rw (c.has_chroma-chroma.ensures, c.count_if-m.ensures, c.is_weighted-weighted.ensures) at c.in_err-c3.ensures))))

pub returns : goal.returns
unfolding pred_weight_table
returns c = shaped_to _ _ _ _ _ refl (on _ _ _ _ (number-when _ _ _ (rw (c.is_weighted-weighted.ensures, c.number_of-luma_denom.ensures) at c.in_ok-c1.ensures)) (on _ _ _ _ (rw (c.both.ensures, c.is_weighted-weighted.ensures, c.has_chroma-chroma.ensures, c.number_of-chroma_denom.ensures) at c.in_ok-c2.ensures) (on _ _ _ _ (rw (c.has_chroma-chroma.ensures, c.count_if-m.ensures, c.is_weighted-weighted.ensures) at c.in_ok-c3.ensures) (rw (c.has_chroma-chroma.ensures, c.count_if-n.ensures, c.both-2.ensures, c.is_weighted-weighted.ensures, c.is_type.ensures) at c.put_weight_list-2.ensures))))
