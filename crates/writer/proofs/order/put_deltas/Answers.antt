use Rattle.syntax.specs.Context.{order_type}
use mir.Facts.{to_z-of_z}
use mir.Syntax.{w32}
use mir.Val.{SFits}
use Rattle.fmt.proofs.Puts.{shaped-none}
use Rattle.writer.proofs.Fields.{marked, unmarked}
use Rattle.writer.proofs.Stages.{no-bits, on, off, shaped_to}
use Rattle.syntax.specs.SliceHeader.{deltas}
use borrow.Author.Rules.{rules}
use Rattle.writer.proofs.order.put_deltas.Goals as goal

pub returns-then-not-fitting : goal.returns-then-not-fitting
unfolding deltas
returns-then-not-fitting c = no-bits (deltas c.args.x c.args.field) c.args.v (shaped-none _ _ _ _ _ (unmarked (order_type c.args.x 1) c.args.v.there c.fitting.ensures c.if-not-fitting.true))

pub returns-in_err-c1 : goal.returns-in_err-c1
unfolding deltas
returns-in_err-c1 c =
    let f : SFits w32 c.args.v.first = search rules in
    shaped_to _ _ _ _ _ (marked (order_type c.args.x 1) c.args.v.there c.fitting.ensures c.if-not-fitting.false) (off _ _ _ _ c.from_residual.ensures (rw (to_z-of_z f, c.both-first_there.ensures) at c.in_err-c1.ensures))

pub returns : goal.returns
unfolding deltas
returns c =
    let f : SFits w32 c.args.v.first = search rules in
    let g : SFits w32 c.args.v.second = search rules in
    shaped_to _ _ _ _ _ (marked (order_type c.args.x 1) c.args.v.there c.fitting.ensures c.if-not-fitting.false) (on _ _ _ _ (rw (to_z-of_z f, c.both-first_there.ensures) at c.in_ok-c1.ensures) (rw (to_z-of_z g, c.both.ensures, c.both-first_there.ensures, c.both-bottom.ensures) at c.put_given_signed-2.ensures))
