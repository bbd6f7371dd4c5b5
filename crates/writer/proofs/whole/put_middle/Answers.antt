use Rattle.record.specs.Record.{header_from}
use Rattle.writer.proofs.PlainLoop.{plain-counts}
use Rattle.writer.proofs.Stages.{on, off}
use Rattle.writer.proofs.whole.put_middle.Goals as goal

pub put_modifications-requires : goal.put_modifications-requires
put_modifications-requires c = let k = plain-counts _ c.requires in (k.l0, k.l1)

pub put_pred_weight_table-requires : goal.put_pred_weight_table-requires
put_pred_weight_table-requires c = let k = plain-counts _ c.requires in (k.w0, k.w1)

pub put_marking-requires : goal.put_marking-requires
put_marking-requires c = (plain-counts _ c.requires).marking

pub returns-in_err-c1 : goal.returns-in_err-c1
unfolding header_from
returns-in_err-c1 c = off _ _ _ _ c.from_residual.ensures c.in_err-c1.ensures

pub returns-in_err-c2 : goal.returns-in_err-c2
unfolding header_from
returns-in_err-c2 c = on _ _ _ _ c.in_ok-c1.ensures (off _ _ _ _ c.from_residual-in_err-c2.ensures c.in_err-c2.ensures)

pub returns-in_err-c3 : goal.returns-in_err-c3
unfolding header_from
returns-in_err-c3 c = on _ _ _ _ c.in_ok-c1.ensures (on _ _ _ _ c.in_ok-c2.ensures (off _ _ _ _ c.from_residual-in_err-c3.ensures c.in_err-c3.ensures))

pub returns : goal.returns
unfolding header_from
returns c = on _ _ _ _ c.in_ok-c1.ensures (on _ _ _ _ c.in_ok-c2.ensures (on _ _ _ _ c.in_ok-c3.ensures (rw (c.quantiser_of-q.ensures, c.filter_of-f.ensures) at c.put_back.ensures)))
