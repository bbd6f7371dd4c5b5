use native.Mathlib.Omega.{arith}
use Rattle.size.specs.Size.{most_bits}
use Rattle.size.proofs.most.most_bits.Goals as goal

pub returns : goal.returns
unfolding most_bits
returns c = omega arith
