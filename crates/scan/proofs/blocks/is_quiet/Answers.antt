use borrow.Author.Tests.{eqb-true}
use native.Mathlib.Omega.{arith}
use mathlib.Core.Path.{◌≡◌}
use Prim.Native.Nat.{ℕ, ◌+◌, ◌*◌}
use Rattle.scan.specs.Clear.{Low}
use Rattle.scan.proofs.Clears.{none-step}
use Rattle.scan.proofs.blocks.is_quiet.Goals as goal

pub loop-k-init : goal.loop-k-init
loop-k-init c = λ e k h p. absurd (omega arith)

pub loop-k-preserved : goal.loop-k-preserved
loop-k-preserved c =
    let a = c.args in
    none-step (λ (k : ℕ). Low a.s.now (a.i + 1 + 2 * k)) c.loop-k.k c.loop-k.m c.low-m.result c.loop-k.invariant c.low-m.ensures

pub returns : goal.returns
returns c = λ e.
    let q : c.loop-k.k ≡ c.args.half = omega arith in
    rw q at (c.loop-k.invariant (eqb-true c.loop-k.m 0 e))
