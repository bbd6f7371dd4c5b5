use mathlib.Core.Path.{sym}
use native.Mathlib.Omega.{arith}
use Rattle.parameter_sets.proofs.Passing.{up-passed}
use Rattle.parameter_sets.proofs.sequence.read_order.Goals as goal

pub overflow_add-result : goal.overflow_add-result
overflow_add-result c = record { fits = omega (arith, up-passed 12 _ _ (sym c.in_ok-log2_max_frame_num_minus4.ensures)) }
