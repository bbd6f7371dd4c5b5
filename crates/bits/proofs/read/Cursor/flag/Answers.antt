use mathlib.Core.Path.{◌∙◌}
use Rattle.bits.specs.Bits.{bits_of}
use Rattle.bits.proofs.Slices.{reached-le}
use Rattle.bits.proofs.read.Cursor.flag.Goals as goal

pub flag_at-requires : goal.flag_at-requires
flag_at-requires c = reached-le _ c.args.s.now c.within.ensures

pub returns : goal.returns
unfolding bits_of
returns c = c.flag_at.ensures ∙ rw c.within.ensures
