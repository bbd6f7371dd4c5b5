use mathlib.Core.Path.{sym}
use lib.Seq.{length-take-le}
use Rattle.bits.proofs.Slices.{take-reached}
use Rattle.bits.proofs.window.within.Goals as goal

pub slice_bounds-result-end : goal.slice_bounds-result-end
slice_bounds-result-end c = sym (length-take-le _ _ c.reached-n.ensures.0)

pub returns : goal.returns
returns c = take-reached _ _ c.reached-n.ensures.1 c.reached-n.ensures.2
