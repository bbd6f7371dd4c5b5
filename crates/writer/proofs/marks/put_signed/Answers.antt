use mir.Facts.{to_z-of_z}
use Rattle.fmt.specs.Leaves.{se}
use Rattle.fmt.proofs.Puts.{put_of}
use Rattle.writer.proofs.Stages.{told}
use Rattle.writer.proofs.marks.put_signed.Goals as goal

pub returns : goal.returns
unfolding se
returns c = rw c.ok.ensures.value (told _ (put_of se _ _ _ _ _ (rw (to_z-of_z c.ranges.v) at c.put_se.ensures.value) (rw (to_z-of_z c.ranges.v) at c.put_se.ensures.d_after)))
