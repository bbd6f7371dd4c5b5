use native.Mathlib.Omega.{arith}
use mathlib.Core.Path.{sym}
use Prim.Native.Nat.{◌-◌}
use native.Mathlib.Nat.{lt_of_le_of_lt}
use lib.Pow.{shr_le}
use Rattle.bits.proofs.Windows.{front}
use Rattle.bits.proofs.Reading.{fixed_in, fixed_out}
use Rattle.bits.proofs.read.last_fixed.Goals as goal

pub returns-then-left-n : goal.returns-then-left-n
returns-then-left-n c =
    let a = c.args in
    rw c.refuse_at.ensures (sym (fixed_out a.s.now a.at a.n (omega arith)))

pub overflow_cast-result-3 : goal.overflow_cast-result-3
overflow_cast-result-3 c = record { fits = lt_of_le_of_lt (shr_le _ _) (omega arith) }

pub returns : goal.returns
returns c =
    let a = c.args in
    rw (c.requires.2, front a.s.now a.at a.n (32 - a.n) 32 (omega arith)) (sym (fixed_in a.s.now a.at a.n (omega arith)))
