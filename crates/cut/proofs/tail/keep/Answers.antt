use mathlib.Core.Path.{refl, sym, ◌∙◌}
use native.Mathlib.Omega.{arith}
use Rattle.cut.proofs.tail.keep.Goals as goal

pub returns-then-is_dropped : goal.returns-then-is_dropped
returns-then-is_dropped c = rw (sym c.is_dropped.ensures ∙ c.if-is_dropped.true) record { value = omega arith; local_after = refl }

pub returns : goal.returns
returns c = rw (sym c.is_dropped.ensures ∙ c.if-is_dropped.false) record { value = refl; local_after = refl }
