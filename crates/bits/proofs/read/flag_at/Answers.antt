use native.Mathlib.Omega.{arith}
use Rattle.bits.specs.Windows.{bit_at}
use Rattle.bits.proofs.Windows.{bits-one}
use Rattle.bits.proofs.Reading.{fixed_in, fixed_out}
use Rattle.bits.proofs.read.flag_at.Goals as goal

pub returns-then-s-i : goal.returns-then-s-i
returns-then-s-i c =
    let a = c.args in
    rw (c.refuse_at.ensures, fixed_out a.s.now a.at 1 (omega arith))

pub returns : goal.returns
unfolding bit_at
returns c =
    let a = c.args in
    rw (fixed_in a.s.now a.at 1 (omega arith), bits-one a.s.now a.at)
