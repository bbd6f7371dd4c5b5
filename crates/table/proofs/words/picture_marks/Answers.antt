use native.Mathlib.Nat.{add-zero}
use Rattle.bits.specs.Refusals.{pick}
use Rattle.bits.specs.Bits.{number_of}
use Rattle.table.specs.Tables.{picture_marks}
use Rattle.table.proofs.words.picture_marks.Goals as goal

pub returns : goal.returns
unfolding picture_marks number_of
returns c = rw (c.digit-entropy.ensures.0, c.digit-bottom.ensures.0, c.digit-weighted.ensures.0, c.digit-control.ensures.0, c.digit-redundant.ensures.0, add-zero (pick c.args.p.redundant_pic_cnt_present_flag 1 0))
