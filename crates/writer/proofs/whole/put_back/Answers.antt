use Rattle.writer.proofs.Stages.{on, off}
use Rattle.writer.proofs.whole.put_back.Goals as goal

pub returns-in_err-c1 : goal.returns-in_err-c1
returns-in_err-c1 c = off _ _ _ _ c.from_residual.ensures c.in_err-c1.ensures

pub returns : goal.returns
returns c = on _ _ _ _ c.in_ok-c1.ensures c.put_filter.ensures
