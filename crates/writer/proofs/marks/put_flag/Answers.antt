use Rattle.fmt.specs.Leaves.{flag}
use Rattle.fmt.proofs.Puts.{put_of}
use Rattle.writer.proofs.Stages.{told}
use Rattle.writer.proofs.marks.put_flag.Goals as goal

pub returns : goal.returns
unfolding flag
returns c = rw c.ok.ensures.value (told _ (put_of flag _ _ _ _ _ c.put_flag.ensures.value c.put_flag.ensures.d_after))
