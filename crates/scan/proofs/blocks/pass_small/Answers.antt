use native.Mathlib.Omega.{arith}
use Prim.Native.Nat.{◌+◌}
use Rattle.scan.proofs.Clears.{clear-join}
use Rattle.scan.proofs.blocks.pass_small.Goals as goal

pub loop-i-init : goal.loop-i-init
loop-i-init c = (omega arith, omega arith, λ j a b p. absurd (omega arith))

pub loop-i-preserved : goal.loop-i-preserved
loop-i-preserved c =
    let a = c.args in (
      omega arith,
      omega arith,
      clear-join a.mask a.flip a.s.now a.from c.loop-i.i (c.loop-i.i + 16) c.loop-i.invariant.2 (c.is_passed.ensures c.if-is_passed.true),
    )

pub returns-else-is_passed : goal.returns-else-is_passed
returns-else-is_passed c = c.loop-i.invariant

pub returns : goal.returns
returns c = c.loop-i.invariant
