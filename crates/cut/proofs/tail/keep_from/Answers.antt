use native.Mathlib.Omega.{arith}
use native.Mathlib.Numerals.{add-one}
use lib.ListN.{get_or, drop}
use Rattle.escape.specs.Body.{body}
use Rattle.cut.proofs.Bytes.{zeros-few}
use Rattle.cut.proofs.Tails.{none-stored, store-next, stored-full, stored-all, none_left, few-kept}
use borrow.Author.Rules.{rules}
use Rattle.cut.proofs.tail.keep_from.Goals as goal

pub loop-i-init : goal.loop-i-init
loop-i-init c = (none-stored _ _, omega arith, omega arith)

pub returns-then-n-ge256 : goal.returns-then-n-ge256
returns-then-n-ge256 c =
    let e = stored-full _ _ _ _ _ c.loop-i.invariant.0 256 (omega arith) in
    record { value = e.0; local_after = e.1 }

pub loop-i-preserved : goal.loop-i-preserved
loop-i-preserved c =
    let l = c.loop-i in
    let u = c.args.unit.now in
    let b = c.args.local.now in
    let f = zeros-few l.zeros (get_or u l.i 0) in
    let g = few-kept l.zeros (get_or u l.i 0) in
    let e = c.zeros_after-zeros.ensures in
    let k = c.keep-n.ensures in
    (rw (e, add-one, k.value, k.local_after) (store-next (body c.args.z (drop c.args.from u)) b l.local l.n u l.zeros l.i (search rules) (omega arith) l.invariant.0), omega arith, omega arith)

pub returns : goal.returns
returns c =
    let e = stored-all _ _ _ _ _ c.loop-i.invariant.0 256 c.loop-i.invariant.1 (none_left c.args.unit.now c.loop-i.zeros c.loop-i.i (search rules)) in
    record { value = e.0; local_after = e.1 }
