use lib.Dec.{lit≤}
use mir.Facts.{to_z-of_z}
use mir.Syntax.{w32}
use mir.Val.{SFits}
use Rattle.table.proofs.Tests.{refuted, held}
use Rattle.table.proofs.Ranges.{picture-ranges}
use Rattle.table.proofs.Storing.{parts, picture-put-past, picture-put-unfit, picture-put-stored, picture-words}
use borrow.Author.Rules.{rules}
use Rattle.table.proofs.words.put_picture_in.Goals as goal

pub returns-then-id-gt255 : goal.returns-then-id-gt255
returns-then-id-gt255 c = rw c.refuse.ensures (parts (picture-put-past _ _ _ _ c.if-id-gt255.true))

pub returns-then-not-picture_fits : goal.returns-then-not-picture_fits
returns-then-not-picture_fits c = rw c.refuse-then-not-picture_fits.ensures (parts (picture-put-unfit _ _ _ _ (refuted c.picture_fits.ensures c.if-not-picture_fits.true)))

pub raised-requires : goal.raised-requires
raised-requires c = let f : SFits w32 c.args.p.pic_init_qp_minus26 = search rules in rw (to_z-of_z f) ((picture-ranges _ (held c.picture_fits.ensures c.if-not-picture_fits.false)).qp, lit≤ tt)

pub raised-requires-2 : goal.raised-requires-2
raised-requires-2 c = let f : SFits w32 c.args.p.pic_init_qs_minus26 = search rules in rw (to_z-of_z f) ((picture-ranges _ (held c.picture_fits.ensures c.if-not-picture_fits.false)).qs, lit≤ tt)

pub returns : goal.returns
returns c =
    let qp : SFits w32 c.args.p.pic_init_qp_minus26 = search rules in
    let qs : SFits w32 c.args.p.pic_init_qs_minus26 = search rules in
    parts
    (picture-put-stored _ _ _ _ c.if-id-gt255.false (held c.picture_fits.ensures c.if-not-picture_fits.false) _ _
    (picture-words _ _ c.picture_marks-marks.ensures (rw (to_z-of_z qp) at c.raised.ensures) (rw (to_z-of_z qs) at c.raised-2.ensures) c.cycle_width-width.ensures c.sequence_in-found.ensures))
