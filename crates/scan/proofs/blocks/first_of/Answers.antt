use native.Mathlib.Omega.{arith}
use mathlib.Core.Path.{◌≡◌}
use Rattle.scan.proofs.Clears.{first_step, first-clear}
use Rattle.scan.proofs.blocks.first_of.Goals as goal

pub loop-k-init : goal.loop-k-init
loop-k-init c = (omega arith, λ j h p. absurd (omega arith))

pub loop-k-preserved : goal.loop-k-preserved
loop-k-preserved c =
    let a = c.args in (
      omega arith,
      first_step a.mask a.flip a.s.now a.i c.loop-k.k c.loop-k.m c.trace-x.result c.place_of.result c.min-m.result
          c.loop-k.invariant.1 c.trace-x.ensures c.place_of.ensures (omega arith) (omega arith),
    )

pub returns : goal.returns
returns c =
    let a = c.args in
    let q : c.loop-k.k ≡ a.count = omega arith in
    (c.loop-k.invariant.0, first-clear a.mask a.flip a.s.now a.i a.count c.loop-k.m c.loop-k.invariant.0 (λ j h p. c.loop-k.invariant.1 j (omega arith) p))
