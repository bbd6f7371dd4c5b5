use native.Mathlib.Omega.{arith}
use Rattle.bits.proofs.Windows.{short-law}
use Rattle.bits.proofs.window.short_window.Goals as goal

pub returns : goal.returns
returns c = let a = c.args in rw c.four.ensures (λ n h. short-law 32 a.s.now a.at n (omega arith))
