use Prim.Native.Nat.{◌+◌}
use native.Mathlib.Omega.{arith}
use borrow.Author.Tests.{le-leb, lt-leb}
use Rattle.weights.specs.Counts.{at_most32}
use Rattle.header.proofs.stages.one_more.Goals as goal

pub overflow_add-result : goal.overflow_add-result
overflow_add-result c = omega arith

pub returns-then-n-lt32 : goal.returns-then-n-lt32
unfolding at_most32
returns-then-n-lt32 c = rw (le-leb (c.args.n + 1) 32 (omega arith))

pub returns-else-n-lt32 : goal.returns-else-n-lt32
unfolding at_most32
returns-else-n-lt32 c = rw (lt-leb (c.args.n + 1) 32 (omega arith))
