use native.Mathlib.Omega.{arith}
use Rattle.lines.proofs.kinds.extension_name.Goals as goal

pub returns-then-svc : goal.returns-then-svc
returns-then-svc c = (rw c.if-svc.true c.words.ensures, omega arith)

pub returns : goal.returns
returns c = (rw c.if-svc.false c.words-2.ensures, omega arith)
