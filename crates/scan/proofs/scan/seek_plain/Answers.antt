use native.Mathlib.Omega.{arith}
use mathlib.Core.Path.{◌≡◌, sym, ◌∙◌}
use Prim.Native.Nat.{◌-◌, ◌≤◌}
use lib.ListN.{length, drop, length-drop}
use Rattle.scan.specs.Scan.{upto}
use Rattle.scan.proofs.Hits.{upto-hit, upto-miss, upto_skip, upto-short}
use Rattle.scan.proofs.scan.seek_plain.Goals as goal

pub loop-i-preserved-then-high-s : goal.loop-i-preserved-then-high-s
loop-i-preserved-then-high-s c =
    let a = c.args in
    (omega arith, c.loop-i.invariant.1 ∙ upto_skip a.low a.high a.s.now c.loop-i.i (omega arith) c.if-high-s.true)

pub returns-then-hit_at : goal.returns-then-hit_at
returns-then-hit_at c =
    let a = c.args in
    let z : upto a.low a.high (drop c.loop-i.i a.s.now) ≡ 0 = upto-hit a.low a.high (drop c.loop-i.i a.s.now) (sym c.hit_at.ensures ∙ c.if-hit_at.true) in
    omega arith

pub loop-i-preserved : goal.loop-i-preserved
loop-i-preserved c =
    let a = c.args in
    (omega arith, c.loop-i.invariant.1 ∙ upto-miss a.low a.high a.s.now c.loop-i.i (omega arith) (sym c.hit_at.ensures ∙ c.if-hit_at.false))

pub returns : goal.returns
returns c =
    let a = c.args in
    let i = c.loop-i.i in
    let short : length (drop i a.s.now) ≤ 2 = rw length-drop (omega arith) in
    let z : upto a.low a.high (drop i a.s.now) ≡ length a.s.now - i = upto-short a.low a.high (drop i a.s.now) short ∙ length-drop i a.s.now in
    omega arith
