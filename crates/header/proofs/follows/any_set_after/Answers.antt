use mathlib.Core.Path.{◌∙◌}
use Rattle.bits.specs.Bits.{bits_of}
use Rattle.header.proofs.follows.any_set_after.Goals as goal

pub returns : goal.returns
unfolding bits_of
returns c = c.any_after.ensures ∙ rw c.within.ensures
