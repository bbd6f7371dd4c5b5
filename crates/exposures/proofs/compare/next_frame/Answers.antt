use Prim.Native.Nat.{◌+◌, ◌^◌, ◌<◌}
use mathlib.Core.Path.{sym}
use native.Mathlib.Nat.{mod-eq_of_lt, lt_of_lt_of_le}
use native.Mathlib.Omega.{arith}
use lib.Pow.{pow_pos, pow_mono}
use Rattle.bits.proofs.Fills.{one_shl}
use Rattle.exposures.specs.Compare.{next_frame}
use Rattle.exposures.proofs.compare.next_frame.Goals as goal

pub nonzero_rem-result : goal.nonzero_rem-result
nonzero_rem-result c = rw (one_shl c.args.log2 (omega arith)) (pow_pos c.args.log2)

pub returns-then-log2-lt33 : goal.returns-then-log2-lt33
unfolding next_frame
returns-then-log2-lt33 c = rw (one_shl c.args.log2 (omega arith))

pub returns-else-log2-lt33 : goal.returns-else-log2-lt33
unfolding next_frame
returns-else-log2-lt33 c =
    let n : c.args.n + 1 < 2 ^ 33 = omega arith in
    sym (mod-eq_of_lt (lt_of_lt_of_le n (pow_mono {i = 33} (omega arith))))
