use Rattle.fmt.specs.Leaves.{ue}
use Rattle.fmt.proofs.Puts.{put_of}
use Rattle.writer.proofs.Stages.{told}
use Rattle.writer.proofs.marks.put_number.Goals as goal

pub returns : goal.returns
unfolding ue
returns c = rw c.ok.ensures.value (told _ (put_of ue _ _ _ _ _ c.put_ue.ensures.value c.put_ue.ensures.d_after))
