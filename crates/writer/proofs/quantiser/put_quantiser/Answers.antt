use mathlib.Core.Path.{refl}
use Rattle.writer.proofs.Stages.{on, off, shaped_to}
use mir.Facts.{to_z-of_z}
use mir.Syntax.{w32}
use mir.Val.{SFits}
use Rattle.syntax.specs.SliceHeader.{quantiser}
use borrow.Author.Rules.{rules}
use Rattle.writer.proofs.quantiser.put_quantiser.Goals as goal

pub returns-in_err-c1 : goal.returns-in_err-c1
unfolding quantiser
returns-in_err-c1 c = shaped_to _ _ _ _ _ refl (off _ _ _ _ c.from_residual.ensures (rw c.has_cabac.ensures at c.in_err-c1.ensures))

pub returns-in_err-c2 : goal.returns-in_err-c2
unfolding quantiser
returns-in_err-c2 c =
    let f : SFits w32 c.args.q.slice_qp_delta = search rules in
    shaped_to _ _ _ _ _ refl (on _ _ _ _ (rw c.has_cabac.ensures at c.in_ok-c1.ensures) (off _ _ _ _ c.from_residual-in_err-c2.ensures (rw (to_z-of_z f) at c.in_err-c2.ensures)))

pub returns-in_err-c3 : goal.returns-in_err-c3
unfolding quantiser
returns-in_err-c3 c =
    let f : SFits w32 c.args.q.slice_qp_delta = search rules in
    shaped_to _ _ _ _ _ refl (on _ _ _ _ (rw c.has_cabac.ensures at c.in_ok-c1.ensures) (on _ _ _ _ (rw (to_z-of_z f) at c.in_ok-c2.ensures) (off _ _ _ _ c.from_residual-in_err-c3.ensures (rw c.is_type-sp.ensures at c.in_err-c3.ensures))))

pub returns : goal.returns
unfolding quantiser
returns c =
    let f : SFits w32 c.args.q.slice_qp_delta = search rules in
    shaped_to _ _ _ _ _ refl (on _ _ _ _ (rw c.has_cabac.ensures at c.in_ok-c1.ensures) (on _ _ _ _ (rw (to_z-of_z f) at c.in_ok-c2.ensures) (on _ _ _ _ (rw c.is_type-sp.ensures at c.in_ok-c3.ensures) (rw (c.either-switching.ensures, c.is_type-sp.ensures, c.is_type.ensures) at c.put_qs_if.ensures))))
