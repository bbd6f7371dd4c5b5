use native.Mathlib.Omega.{arith}
use borrow.Author.Tests.{eq-eqb}
use lib.Count.{leading_le}
use Rattle.bits.specs.Width.{change_cycle_width}
use Rattle.bits.proofs.Widths.{width-leading}
use Rattle.bits.proofs.width.change_cycle_width.Goals as goal

pub returns-then-rate-eq0 : goal.returns-then-rate-eq0
unfolding change_cycle_width
returns-then-rate-eq0 c = rw (eq-eqb _ _ c.if-rate-eq0.true)

pub overflow_sub-result : goal.overflow_sub-result
overflow_sub-result c = leading_le 64 _

pub returns : goal.returns
returns c = let a = c.args in width-leading a.size a.rate (omega arith) (omega arith)
