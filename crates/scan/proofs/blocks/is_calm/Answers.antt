use borrow.Author.Rules.{rules}
use borrow.Author.Tests.{eqb-true}
use native.Mathlib.Omega.{arith}
use mathlib.Core.Path.{◌≡◌, ◌∙◌}
use Prim.Native.Nat.{ℕ, ◌*◌}
use lib.ListN.{length-set}
use Rattle.scan.specs.Clear.{Low}
use Rattle.scan.proofs.Clears.{least_step, quiet-least, none-step}
use Rattle.scan.proofs.blocks.is_calm.Goals as goal

pub loop-k-init : goal.loop-k-init
loop-k-init c = (search rules, λ r h q m. absurd (omega arith))

pub loop-k-preserved : goal.loop-k-preserved
loop-k-preserved c =
    let a = c.args in
    (length-set c.loop-k.t c.loop-k.k c.min-in-loop-k-2.result ∙ c.loop-k.invariant.0, least_step a.s.now a.i c.loop-k.t c.loop-k.k c.min-in-loop-k-2.result (omega arith) c.loop-k.invariant.1 (omega arith) (omega arith) (omega arith) (omega arith))

pub loop-p-init : goal.loop-p-init
loop-p-init c = λ e j h p. absurd (omega arith)

pub loop-p-preserved : goal.loop-p-preserved
loop-p-preserved c = none-step (λ (j : ℕ). Low c.loop-k.t (2 * j)) c.loop-p.p c.loop-p.m c.low-m.result c.loop-p.invariant c.low-m.ensures

pub returns : goal.returns
returns c = λ e.
    let a = c.args in
    let q : c.loop-k.k ≡ 32 = omega arith in
    quiet-least a.s.now a.i c.loop-k.t (rw q at c.loop-k.invariant.1) (λ j h. c.loop-p.invariant (eqb-true c.loop-p.m 0 e) j (omega arith))
