use Rattle.syntax.specs.SliceHeader.{parts}
use Rattle.syntax.proofs.Goods.{counts-few}
use Rattle.record.specs.Fields.{frame_from, active_counts_from}
use Rattle.record.specs.Record.{header_from}
use Rattle.writer.proofs.Stages.{on-good, on, off, active-few}
use Rattle.writer.proofs.whole.put_header.Goals as goal

pub returns-in_err-c1 : goal.returns-in_err-c1
unfolding parts header_from frame_from
returns-in_err-c1 c = off _ _ _ _ c.from_residual.ensures c.in_err-c1.ensures

pub returns-in_err-c2 : goal.returns-in_err-c2
unfolding parts header_from frame_from
returns-in_err-c2 c = on _ _ _ _ c.in_ok-c1.ensures (off _ _ _ _ c.from_residual-in_err-c2.ensures (rw c.frame_of.ensures at c.in_err-c2.ensures))

pub returns-in_err-c3 : goal.returns-in_err-c3
unfolding parts header_from frame_from
returns-in_err-c3 c = on _ _ _ _ c.in_ok-c1.ensures (on _ _ _ _ (rw c.frame_of.ensures at c.in_ok-c2.ensures) (off _ _ _ _ c.from_residual-in_err-c3.ensures (rw c.order_count_of-o.ensures at c.in_err-c3.ensures)))

pub returns-in_err-c4 : goal.returns-in_err-c4
unfolding parts header_from frame_from
returns-in_err-c4 c = on _ _ _ _ c.in_ok-c1.ensures (on _ _ _ _ (rw c.frame_of.ensures at c.in_ok-c2.ensures) (on _ _ _ _ (rw c.order_count_of-o.ensures at c.in_ok-c3.ensures) (off _ _ _ _ c.from_residual-in_err-c4.ensures (rw c.active_counts_of-a.ensures at c.in_err-c4.ensures))))

pub returns : goal.returns
unfolding parts header_from frame_from
returns c = on _ _ _ _ c.in_ok-c1.ensures (on _ _ _ _ (rw c.frame_of.ensures at c.in_ok-c2.ensures) (on _ _ _ _ (rw c.order_count_of-o.ensures at c.in_ok-c3.ensures) (on-good _ _ _ _ (rw c.active_counts_of-a.ensures at c.in_ok-c4.ensures)
    (λ t.
    let few = c.requires.num_ref_idx_l0_default_active_minus1_bound in
    let g = counts-few _ _ t in
    let l0 = rw c.active_counts_of-a.ensures at c.active-n0.ensures in
    let l1 = rw c.active_counts_of-a.ensures at c.active-n1.ensures in
    let a = c.args in
    let m = active_counts_from a.numbers.now in
    let p = a.x.picture in
    let e0 = active-few m.num_ref_idx_l0_active_minus1 p.num_ref_idx_l0_default_active_minus1 l0 g.l0 few.0 in
    let e1 = active-few m.num_ref_idx_l1_active_minus1 p.num_ref_idx_l1_default_active_minus1 l1 g.l1 few.1 in
    rw (e0, e1) at c.put_middle.ensures))))
