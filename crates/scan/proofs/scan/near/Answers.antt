use native.Mathlib.Omega.{arith}
use Rattle.scan.proofs.Clears.{near-low, near-three, near-one}
use Rattle.scan.proofs.scan.near.Goals as goal

pub returns-then-low-high : goal.returns-then-low-high
returns-then-low-high c =
    let a = c.args in
    let p = c.pass_over.ensures in
    (p.1, near-one a.low a.high a.s.now a.from c.pass_over.result p.0 p.1 c.if-low-high.true (omega arith) p.2)

pub returns-then-high-le1 : goal.returns-then-high-le1
returns-then-high-le1 c =
    let a = c.args in
    let p = c.pass_soon.ensures in
    (p.1, near-low a.low a.high a.s.now a.from c.pass_soon.result p.0 p.1 (omega arith) p.2)

pub returns : goal.returns
returns c =
    let a = c.args in
    let p = c.pass_soon-2.ensures in
    (p.1, near-three a.low a.high a.s.now a.from c.pass_soon-2.result p.0 p.1 (omega arith) p.2)
