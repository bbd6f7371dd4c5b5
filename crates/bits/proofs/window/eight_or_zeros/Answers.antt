use borrow.Author.Rules.{rules}
use native.Mathlib.Omega.{arith}
use mathlib.Core.Path.{◌≡◌, refl}
use Prim.Native.Nat.{◌*◌}
use Rattle.bits.specs.Windows.{bits_at}
use Rattle.bits.proofs.Windows.{joined, under, under-le}
use Rattle.bits.proofs.window.eight_or_zeros.Goals as goal

pub loop-j-init : goal.loop-j-init
unfolding bits_at
loop-j-init c = (search rules, refl)

pub overflow_mul-g : goal.overflow_mul-g
overflow_mul-g c = omega (arith, under-le _ _ _ 56 _ c.loop-j.invariant.1 (omega arith))

pub overflow_add-g : goal.overflow_add-g
overflow_add-g c = omega (arith, under-le _ _ _ 56 _ c.loop-j.invariant.1 (omega arith), under _ _ 8 _ c.one_or_zeros.ensures)

pub loop-j-preserved : goal.loop-j-preserved
loop-j-preserved c = (search rules, joined _ _ _ _ 8 _ _ _ (omega arith) (omega arith) c.loop-j.invariant.1 c.one_or_zeros.ensures)

pub returns : goal.returns
returns c =
    let e : 8 * c.loop-j.j ≡ 64 = omega arith in
    rw e at c.loop-j.invariant.1
