use Rattle.fmt.specs.Leaves.{u}
use Rattle.fmt.proofs.Puts.{put_of}
use Rattle.writer.proofs.Stages.{told}
use Rattle.writer.proofs.marks.put_bits.Goals as goal

pub returns : goal.returns
unfolding u
returns c = rw c.ok.ensures.value (told _ (put_of (u c.args.n) _ _ _ _ _ c.put_bits.ensures.value c.put_bits.ensures.d_after))
