use native.Mathlib.Omega.{arith}
use borrow.Author.Rules.{rules}
use Rattle.header.proofs.Tried.{start-end}
use Rattle.header.proofs.escaped.start_in.Goals as goal

pub returns-else-from-n : goal.returns-else-from-n
returns-else-from-n c = (search rules, start-end c.args.unit.now c.args.from (omega arith))
