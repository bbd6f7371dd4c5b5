use native.Mathlib.Omega.{arith}
use Prim.Native.Nat.{◌≤◌, ◌<◌}
use borrow.Author.Tests.{le-leb, lt-leb}
use Rattle.bits.proofs.read.field_width.Goals as goal

pub returns-then-n-le32 : goal.returns-then-n-le32
returns-then-n-le32 c = let h : c.args.n ≤ 32 = omega arith in (rw (le-leb _ _ h), h)

pub returns-else-n-le32 : goal.returns-else-n-le32
returns-else-n-le32 c = let h : 32 < c.args.n = omega arith in (rw (lt-leb _ _ h), omega arith)
