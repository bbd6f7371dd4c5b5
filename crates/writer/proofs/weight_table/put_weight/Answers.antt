use mathlib.Core.Path.{refl}
use mir.Facts.{to_z-of_z}
use mir.Syntax.{w32}
use mir.Val.{SFits}
use Rattle.syntax.specs.SliceHeader.{weight}
use Rattle.weights.specs.Halves.{chroma_half}
use Rattle.writer.proofs.Stages.{on, off, shaped_to}
use borrow.Author.Rules.{rules}
use Rattle.writer.proofs.weight_table.put_weight.Goals as goal

pub returns-in_err-c1 : goal.returns-in_err-c1
unfolding weight chroma_half
returns-in_err-c1 c = shaped_to _ _ _ _ _ refl (off _ _ _ _ c.from_residual.ensures c.in_err-c1.ensures)

-- signed fields come back from a call as they were
pub returns-in_err-c2 : goal.returns-in_err-c2
unfolding weight chroma_half
returns-in_err-c2 c =
    let f0 : SFits w32 c.args.w.luma_weight = search rules in
    shaped_to _ _ _ _ _ refl (on _ _ _ _ c.in_ok-c1.ensures (off _ _ _ _ c.from_residual-in_err-c2.ensures (rw (to_z-of_z f0) at c.in_err-c2.ensures)))

pub returns-in_err-c3 : goal.returns-in_err-c3
unfolding weight chroma_half
returns-in_err-c3 c =
    let f0 : SFits w32 c.args.w.luma_weight = search rules in
    let f1 : SFits w32 c.args.w.luma_offset = search rules in
    shaped_to _ _ _ _ _ refl (on _ _ _ _ c.in_ok-c1.ensures (on _ _ _ _ (rw (to_z-of_z f0) at c.in_ok-c2.ensures) (off _ _ _ _ c.from_residual-in_err-c3.ensures (rw (to_z-of_z f1) at c.in_err-c3.ensures))))

pub returns : goal.returns
unfolding weight chroma_half
returns c =
    let f0 : SFits w32 c.args.w.luma_weight = search rules in
    let f1 : SFits w32 c.args.w.luma_offset = search rules in
    shaped_to _ _ _ _ _ refl (on _ _ _ _ c.in_ok-c1.ensures (on _ _ _ _ (rw (to_z-of_z f0) at c.in_ok-c2.ensures) (on _ _ _ _ (rw (to_z-of_z f1) at c.in_ok-c3.ensures) c.put_chroma_half.ensures)))
