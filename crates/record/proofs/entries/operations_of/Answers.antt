use borrow.Author.Rules.{rules}
use Prim.Native.Nat.{◌≤◌}
use Rattle.record.proofs.Taken.{none-loaded, one-loaded, all-loaded}
use Rattle.lists.proofs.Emptied.{at-most-66}
use mathlib.Core.Path.{◌≡◌}
use native.Mathlib.Omega.{arith}
use Rattle.record.proofs.entries.operations_of.Goals as goal

pub loop-i-init : goal.loop-i-init
loop-i-init c = let h : c.at_most_66-used.result ≤ 66 = rw c.at_most_66-used.ensures (at-most-66 c.args.count) in (h, none-loaded _)

pub loop-i-preserved : goal.loop-i-preserved
loop-i-preserved c = (c.loop-i.invariant.0, one-loaded _ c.loop-i.invariant.1 (search rules))

pub returns : goal.returns
returns c =
    let u = c.at_most_66-used in
    let e : c.loop-i.i ≡ u.result = omega arith in
    all-loaded _ c.args.count c.loop-i.invariant.1 e u.ensures
