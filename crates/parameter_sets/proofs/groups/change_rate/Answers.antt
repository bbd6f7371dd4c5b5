use native.Mathlib.Omega.{arith}
use mathlib.Core.Path.{sym}
use Rattle.parameter_sets.proofs.Passing.{up-passed}
use Rattle.parameter_sets.proofs.groups.change_rate.Goals as goal

pub overflow_add-result : goal.overflow_add-result
overflow_add-result c = omega (arith, up-passed _ _ _ (sym c.in_ok-slice_group_change_rate_minus1.ensures))
