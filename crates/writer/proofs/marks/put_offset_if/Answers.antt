use mir.Facts.{to_z-of_z}
use mir.Syntax.{w32}
use mir.Val.{SFits}
use Rattle.writer.proofs.Fields.{signed-there, signed-absent, signed-unfit}
use borrow.Author.Rules.{rules}
use Rattle.writer.proofs.marks.put_offset_if.Goals as goal

pub returns-then-not-fitting : goal.returns-then-not-fitting
returns-then-not-fitting c =
    let f : SFits w32 c.args.m.value = search rules in
    signed-unfit _ _ _ (rw (c.is_zero.ensures, to_z-of_z f) at c.fitting.ensures) c.if-not-fitting.true

pub returns-then-there : goal.returns-then-there
returns-then-there c =
    let f : SFits w32 c.args.m.value = search rules in
    signed-there _ _ _ (rw (c.is_zero.ensures, to_z-of_z f) at c.fitting.ensures) c.if-not-fitting.false c.if-there.true (rw (to_z-of_z f) at c.put_offset.ensures)

pub returns-else-there : goal.returns-else-there
returns-else-there c =
    let f : SFits w32 c.args.m.value = search rules in
    signed-absent _ _ _ (rw (c.is_zero.ensures, to_z-of_z f) at c.fitting.ensures) c.if-not-fitting.false c.if-there.false
