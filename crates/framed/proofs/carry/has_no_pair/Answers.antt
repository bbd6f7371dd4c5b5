use mathlib.Core.Bool.{false≢true}
use native.Mathlib.Omega.{arith}
use Prim.Native.Nat.{◌+◌, ◌-◌}
use lib.ListN.{length}
use Rattle.scan.proofs.Clears.{clear_none, clear-join, clear-part}
use Rattle.framed.proofs.Carried.{no-pair}
use Rattle.framed.proofs.carry.has_no_pair.Goals as goal

pub returns-then-last-lt-BLOCK : goal.returns-then-last-lt-BLOCK
returns-then-last-lt-BLOCK c = λ e. no-pair c.args.unit.now _ (omega arith) (c.is_apart.ensures e)

pub loop-i-init : goal.loop-i-init
loop-i-init c = (omega arith, clear_none 0 0 c.args.unit.now 0)

pub loop-i-preserved : goal.loop-i-preserved
loop-i-preserved c = (omega arith, clear-join 0 0 c.args.unit.now 0 c.loop-i.i (c.loop-i.i + 32) c.loop-i.invariant.1 (c.is_apart-in-loop-i.ensures c.if-is_apart.true))

pub returns-else-is_apart : goal.returns-else-is_apart
returns-else-is_apart c = λ e. absurd (false≢true e)

pub returns : goal.returns
returns c = λ e.
    let u = c.args.unit.now in
    let i = c.loop-i.i in
    let end = length u - 1 - 32 + 32 in
    let last = clear-part 0 0 u (length u - 1 - 32) end i end (omega arith) (omega arith) (c.is_apart-2.ensures e) in
    no-pair u end (omega arith) (clear-join 0 0 u 0 i end c.loop-i.invariant.1 last)
