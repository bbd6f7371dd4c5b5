use mathlib.Core.Path.{sym}
use native.Mathlib.Omega.{arith}
use Rattle.scan.proofs.Hits.{hit-short, hit-no-1, hit-no-2, hit-no-3, hit-yes}
use Rattle.scan.proofs.scan.hit_at.Goals as goal

pub returns-then-s-lt3 : goal.returns-then-s-lt3
returns-then-s-lt3 c = let a = c.args in sym (hit-short a.low a.high a.s.now a.i (omega arith))

pub returns-then-s-i : goal.returns-then-s-i
returns-then-s-i c = let a = c.args in sym (hit-short a.low a.high a.s.now a.i (omega arith))

pub returns-then-s-i-ne0 : goal.returns-then-s-i-ne0
returns-then-s-i-ne0 c = let a = c.args in sym (hit-no-1 a.low a.high a.s.now a.i (omega arith) c.if-s-i-ne0.true)

pub returns-then-s-i-ne0-2 : goal.returns-then-s-i-ne0-2
returns-then-s-i-ne0-2 c = let a = c.args in sym (hit-no-2 a.low a.high a.s.now a.i (omega arith) c.if-s-i-ne0-2.true)

pub returns-then-c-low : goal.returns-then-c-low
returns-then-c-low c = let a = c.args in sym (hit-no-3 a.low a.high a.s.now a.i (omega arith) c.if-c-low.true)

pub returns : goal.returns
returns c = let a = c.args in sym (hit-yes a.low a.high a.s.now a.i (omega arith) c.if-s-i-ne0.false c.if-s-i-ne0-2.false c.if-c-low.false)
