use mathlib.Core.Path.{refl}
use Rattle.exposures.specs.Words.{counts_in}
use Rattle.exposures.proofs.take.counts.Goals as goal

pub returns : goal.returns
unfolding counts_in
returns c = refl
