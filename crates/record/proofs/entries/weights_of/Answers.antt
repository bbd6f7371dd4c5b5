use borrow.Author.Rules.{rules}
use Prim.Native.Nat.{◌≤◌}
use mathlib.Core.Path.{◌≡◌}
use native.Mathlib.Omega.{arith}
use Rattle.weights.proofs.AtMost.{at-most-32}
use Rattle.record.proofs.Taken.{none-held, one-held, all_held}
use Rattle.record.proofs.entries.weights_of.Goals as goal

pub loop-i-init : goal.loop-i-init
loop-i-init c = let h : c.at_most_32-used.result ≤ 32 = rw c.at_most_32-used.ensures (at-most-32 c.args.count) in (h, rw c.no_entry-entries.ensures (none-held c.args.words.now))

pub loop-i-preserved : goal.loop-i-preserved
loop-i-preserved c = (c.loop-i.invariant.0, rw c.weight_at.ensures (one-held _ c.loop-i.invariant.1 (search rules)))

pub returns : goal.returns
returns c =
    let u = c.at_most_32-used in
    let e : c.loop-i.i ≡ u.result = omega arith in
    all_held _ c.args.count c.loop-i.invariant.1 e u.ensures
