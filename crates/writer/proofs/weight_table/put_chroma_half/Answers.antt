use mir.Facts.{to_z-of_z}
use mir.Syntax.{w32}
use mir.Val.{SFits}
use Rattle.weights.specs.Halves.{chroma_half}
use Rattle.writer.proofs.Stages.{on, off}
use borrow.Author.Rules.{rules}
use Rattle.writer.proofs.weight_table.put_chroma_half.Goals as goal

pub returns-in_err-c1 : goal.returns-in_err-c1
unfolding chroma_half
returns-in_err-c1 c = off _ _ _ _ c.from_residual.ensures c.in_err-c1.ensures

-- signed fields come back from a call as they were
pub returns-in_err-c2 : goal.returns-in_err-c2
unfolding chroma_half
returns-in_err-c2 c =
    let f0 : SFits w32 c.args.w.cb_weight = search rules in
    on _ _ _ _ c.in_ok-c1.ensures (off _ _ _ _ c.from_residual-in_err-c2.ensures (rw (to_z-of_z f0) at c.in_err-c2.ensures))

pub returns-in_err-c3 : goal.returns-in_err-c3
unfolding chroma_half
returns-in_err-c3 c =
    let f0 : SFits w32 c.args.w.cb_weight = search rules in
    let f1 : SFits w32 c.args.w.cb_offset = search rules in
    on _ _ _ _ c.in_ok-c1.ensures (on _ _ _ _ (rw (to_z-of_z f0) at c.in_ok-c2.ensures) (off _ _ _ _ c.from_residual-in_err-c3.ensures (rw (to_z-of_z f1) at c.in_err-c3.ensures)))

pub returns-in_err-c4 : goal.returns-in_err-c4
unfolding chroma_half
returns-in_err-c4 c =
    let f0 : SFits w32 c.args.w.cb_weight = search rules in
    let f1 : SFits w32 c.args.w.cb_offset = search rules in
    let f2 : SFits w32 c.args.w.cr_weight = search rules in
    on _ _ _ _ c.in_ok-c1.ensures (on _ _ _ _ (rw (to_z-of_z f0) at c.in_ok-c2.ensures) (on _ _ _ _ (rw (to_z-of_z f1) at c.in_ok-c3.ensures) (off _ _ _ _ c.from_residual-in_err-c4.ensures (rw (to_z-of_z f2) at c.in_err-c4.ensures))))

pub returns : goal.returns
unfolding chroma_half
returns c =
    let f0 : SFits w32 c.args.w.cb_weight = search rules in
    let f1 : SFits w32 c.args.w.cb_offset = search rules in
    let f2 : SFits w32 c.args.w.cr_weight = search rules in
    let f3 : SFits w32 c.args.w.cr_offset = search rules in
    on _ _ _ _ c.in_ok-c1.ensures (on _ _ _ _ (rw (to_z-of_z f0) at c.in_ok-c2.ensures) (on _ _ _ _ (rw (to_z-of_z f1) at c.in_ok-c3.ensures) (on _ _ _ _ (rw (to_z-of_z f2) at c.in_ok-c4.ensures) (rw (to_z-of_z f3) at c.put_given_signed-4.ensures))))
