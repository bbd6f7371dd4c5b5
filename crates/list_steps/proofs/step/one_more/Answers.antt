use native.Mathlib.Omega.{arith}
use borrow.Author.Tests.{lt-ltb, le-ltb}
use Rattle.list_steps.proofs.step.one_more.Goals as goal

pub returns-then-n-lt-MOST : goal.returns-then-n-lt-MOST
returns-then-n-lt-MOST c = rw (lt-ltb c.args.n 65536 c.if-n-lt-MOST.true) (omega arith)

pub returns-else-n-lt-MOST : goal.returns-else-n-lt-MOST
returns-else-n-lt-MOST c = rw (le-ltb c.args.n 65536 c.if-n-lt-MOST.false)
