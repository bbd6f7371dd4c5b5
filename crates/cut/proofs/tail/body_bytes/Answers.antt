use native.Mathlib.Omega.{arith}
use native.Mathlib.Numerals.{add-one}
use mathlib.Core.Path.{ap}
use lib.ListN.{length, get_or}
use Rattle.cut.proofs.Bytes.{zeros-few}
use Rattle.cut.proofs.Tails.{next-length, none_left, few-kept}
use borrow.Author.Rules.{rules}
use Rattle.cut.proofs.tail.body_bytes.Goals as goal

pub loop-i-init : goal.loop-i-init
loop-i-init c = (omega arith, omega arith, omega arith)

pub loop-i-preserved : goal.loop-i-preserved
loop-i-preserved c =
    let l = c.loop-i in
    let u = c.args.unit.now in
    let f = zeros-few l.zeros (get_or u l.i 0) in
    let g = few-kept l.zeros (get_or u l.i 0) in
    let e = c.zeros_after-zeros.ensures in
    let k = c.kept-n.ensures in
    let n = next-length u l.zeros l.i (search rules) in
    (rw (e, add-one) (omega arith), omega arith, omega arith)

pub returns : goal.returns
returns c = let e = ap length (none_left c.args.unit.now c.loop-i.zeros c.loop-i.i (search rules)) in omega arith
