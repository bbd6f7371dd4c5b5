use native.Mathlib.Nat.{add-zero}
use Rattle.bits.specs.Refusals.{pick}
use Rattle.bits.specs.Bits.{number_of}
use Rattle.table.specs.Tables.{sequence_marks}
use Rattle.table.proofs.words.sequence_marks.Goals as goal

pub returns : goal.returns
unfolding sequence_marks number_of
returns c = rw (c.digit-separate.ensures.0, c.digit-always_zero.ensures.0, c.digit-frames_only.ensures.0, add-zero (pick c.args.s.frame_mbs_only_flag 1 0))
