use borrow.Author.Rules.{rules}
use native.Mathlib.Omega.{arith}
use mathlib.Core.Path.{sym}
use Prim.Native.Nat.{◌*◌}
use Rattle.bits.proofs.Windows.{bits-past}
use Rattle.bits.proofs.window.one_or_zeros.Goals as goal

pub returns-then-i-s : goal.returns-then-i-s
returns-then-i-s c = search rules

pub returns-else-i-s : goal.returns-else-i-s
returns-else-i-s c = let a = c.args in sym (bits-past a.s.now (8 * a.i) 8 (omega arith))
