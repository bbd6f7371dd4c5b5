use Prim.Native.Nat.{suc, ◌+◌, ◌-◌, ◌≤◌}
use mathlib.Core.Path.{◌≡◌}
use native.Mathlib.Omega.{arith}
use mir.Facts.{to_z-of_z}
use mir.Syntax.{w32}
use mir.Val.{SFits}
use borrow.Author.Rules.{rules}
use Rattle.fmt.specs.Reads.{next}
use Rattle.parameter_sets.specs.SequenceSet.{scaling_list}
use Rattle.parameter_sets.proofs.ScalingLists.{delta-in}
use Rattle.parameter_sets.proofs.scaling.scaling_list.Goals as goal

pub next_scale-scale-requires : goal.next_scale-scale-requires
next_scale-scale-requires c = let f : SFits w32 c.in_ok-delta.delta = search rules in rw (to_z-of_z f) (c.loop.invariant.0, delta-in _ _ c.in_ok-delta.ensures)

pub loop-preserved : goal.loop-preserved
unfolding next scaling_list
loop-preserved c =
    let f : SFits w32 c.in_ok-delta.delta = search rules in
    let q = rw (to_z-of_z f) at c.next_scale-scale.ensures in
    let k : c.args.n - c.loop.counter ≡ suc (c.args.n - (c.loop.counter + 1)) = omega (arith, c.loop-test.true) in
    let small : c.next_scale-scale.result ≤ 255 = omega (arith, q) in
    (grind arith, search rules)
