use Rattle.writer.proofs.Stages.{on, off}
use Rattle.syntax.specs.SliceHeader.{slice_type}
use Rattle.writer.proofs.whole.put_lead.Goals as goal

pub returns-in_err-c1 : goal.returns-in_err-c1
unfolding slice_type
returns-in_err-c1 c = off _ _ _ _ c.from_residual.ensures c.in_err-c1.ensures

pub returns-in_err-c2 : goal.returns-in_err-c2
unfolding slice_type
returns-in_err-c2 c = on _ _ _ _ c.in_ok-c1.ensures (off _ _ _ _ c.from_residual-in_err-c2.ensures c.in_err-c2.ensures)

pub returns : goal.returns
unfolding slice_type
returns c = on _ _ _ _ c.in_ok-c1.ensures (on _ _ _ _ c.in_ok-c2.ensures c.put_number-2.ensures)
