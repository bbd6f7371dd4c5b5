use native.Mathlib.Omega.{arith}
use mathlib.Core.Path.{sym, ◌∙◌}
use Prim.Native.Nat.{◌<◌}
use lib.Count.{count_leading_zeros}
use Rattle.bits.specs.Bits.{bits_of}
use Rattle.bits.proofs.Slices.{reached-le}
use Rattle.bits.proofs.Reading.{few, code-pos, ue-near}
use Rattle.bits.proofs.read.Cursor.ue.Goals as goal

zeros : (c : goal.Then-w-ge524288) → count_leading_zeros 32 c.short_window-w.result < 13
zeros c = few _ (omega arith) (omega arith)

pub overflow_mul-size : goal.overflow_mul-size
overflow_mul-size c = omega (arith, zeros c)

pub overflow_add-size : goal.overflow_add-size
overflow_add-size c = omega (arith, zeros c)

pub overflow_cast-next : goal.overflow_cast-next
overflow_cast-next c = omega (arith, zeros c)

pub overflow_add-next : goal.overflow_add-next
overflow_add-next c = omega (arith, zeros c)

pub overflow_sub-result : goal.overflow_sub-result
overflow_sub-result c = omega (arith, zeros c)

pub overflow_sub-result-then-w-ge524288 : goal.overflow_sub-result-then-w-ge524288
overflow_sub-result-then-w-ge524288 c =
    let a = c.args in
    code-pos a.s.now a.self.at _ _ c.reached.ensures (omega arith) c.short_window-w.ensures (omega arith) (omega arith)

pub returns-then-w-ge524288 : goal.returns-then-w-ge524288
returns-then-w-ge524288 c =
    let a = c.args in
    sym (ue-near a.s.now a.self.at _ _ c.reached.ensures (omega arith) c.short_window-w.ensures (omega arith) (omega arith))

pub slow-requires : goal.slow-requires
slow-requires c = (reached-le _ c.args.s.now c.within.ensures, omega arith)

pub returns : goal.returns
unfolding bits_of
returns c = c.slow.ensures ∙ rw c.within.ensures
