use borrow.Author.Rules.{rules}
use native.Mathlib.Omega.{arith}
use mathlib.Core.Path.{sym}
use Prim.Native.Nat.{◌*◌}
use Rattle.bits.proofs.Windows.{bits-past, bits-late}
use Rattle.bits.proofs.window.late.Goals as goal

pub returns-then-n-lt8 : goal.returns-then-n-lt8
returns-then-n-lt8 c = search rules

pub returns-then-n-k : goal.returns-then-n-k
returns-then-n-k c = let a = c.args in sym (bits-past a.s.now (8 * a.k) 64 (omega arith))

pub returns : goal.returns
returns c = rw c.eight.ensures (bits-late _ _ _ _ 64 (omega arith) (omega arith) (omega arith))
