use native.Mathlib.Omega.{arith}
use Rattle.scan.proofs.blocks.pass_end.Goals as goal

pub returns-then-is_passed : goal.returns-then-is_passed
returns-then-is_passed c = (omega arith, omega arith, λ j x y p. c.is_passed.ensures c.if-is_passed.true j (omega arith) (omega arith) p)
