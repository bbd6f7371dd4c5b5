use native.Mathlib.Omega.{arith}
use mathlib.Core.Path.{◌≡◌, sym}
use Prim.Native.Nat.{◌-◌, ◌/◌, ◌^◌}
use native.Mathlib.Nat.{lt_of_le_of_lt}
use lib.Pow.{shr_le}
use Rattle.bits.specs.Windows.{bits_at}
use Rattle.bits.proofs.Windows.{front, under}
use Rattle.bits.proofs.Reading.{fixed_in, fixed_out}
use Rattle.bits.proofs.read.fixed_in.Goals as goal

-- the window's first half
top : (c : goal.Else-s-at) → let a = c.args in a.w / 2 ^ 32 ≡ bits_at a.s.now a.at 32
top c = let a = c.args in rw c.requires.2 (front a.s.now a.at 32 32 64 (omega arith))

pub returns-then-s-at : goal.returns-then-s-at
returns-then-s-at c =
    let a = c.args in
    rw c.refuse_at.ensures (sym (fixed_out a.s.now a.at a.n (omega arith)))

pub overflow_cast-result-2 : goal.overflow_cast-result-2
overflow_cast-result-2 c = record { fits = lt_of_le_of_lt (shr_le _ _) (under _ _ 32 _ (top c)) }

pub returns : goal.returns
returns c =
    let a = c.args in
    rw (top c, front a.s.now a.at a.n (32 - a.n) 32 (omega arith)) (sym (fixed_in a.s.now a.at a.n (omega arith)))
