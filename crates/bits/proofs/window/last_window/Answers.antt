use native.Mathlib.Omega.{arith}
use Rattle.bits.proofs.Windows.{bits-late}
use Rattle.bits.proofs.window.last_window.Goals as goal

pub returns : goal.returns
returns c = rw c.four.ensures (bits-late _ _ _ _ 32 (omega arith) (omega arith) (omega arith))
