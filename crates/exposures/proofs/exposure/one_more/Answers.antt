use native.Mathlib.Omega.{arith}
use Rattle.exposures.specs.Exposure.{held}
use Rattle.exposures.proofs.exposure.one_more.Goals as goal

pub returns-then-n-lt-MOST : goal.returns-then-n-lt-MOST
unfolding held
returns-then-n-lt-MOST c = omega arith

pub returns-else-n-lt-MOST : goal.returns-else-n-lt-MOST
unfolding held
returns-else-n-lt-MOST c = omega arith
