use mathlib.Core.Path.{refl}
use Rattle.exposures.specs.Take.{no_slice}
use Rattle.exposures.proofs.take.no_slice.Goals as goal

pub returns : goal.returns
unfolding no_slice
returns c = refl
