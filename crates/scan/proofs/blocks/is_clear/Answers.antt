use borrow.Author.Tests.{ltb-true}
use native.Mathlib.Omega.{arith}
use mathlib.Core.Path.{◌≡◌}
use Rattle.scan.proofs.Clears.{clear_none, clear_step}
use Rattle.scan.proofs.blocks.is_clear.Goals as goal

pub loop-k-init : goal.loop-k-init
loop-k-init c = let a = c.args in λ h. clear_none a.mask a.flip a.s.now a.i

pub loop-k-preserved : goal.loop-k-preserved
loop-k-preserved c =
    let a = c.args in
    clear_step a.mask a.flip a.s.now a.i c.loop-k.k c.loop-k.m c.trace.result c.min-m.result c.loop-k.invariant c.trace.ensures (omega arith) (omega arith)

pub returns : goal.returns
returns c = λ e.
    let q : c.loop-k.k ≡ c.args.count = omega arith in
    rw q at (c.loop-k.invariant (ltb-true 0 c.loop-k.m e))
