use native.Mathlib.Omega.{arith}
use Rattle.bits.proofs.Slices.{reached-le}
use Rattle.parameter_sets.proofs.Ids.{within-bits}
use Rattle.parameter_sets.proofs.groups.bit_length.Goals as goal

pub overflow_mul-result : goal.overflow_mul-result
overflow_mul-result c = omega (arith, reached-le _ c.args.s.now c.within.ensures)

pub returns : goal.returns
returns c = within-bits _ c.args.s.now c.within.ensures
