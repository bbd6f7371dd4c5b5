use borrow.Author.Tests.{ltb-true}
use mathlib.Core.Path.{◌≡◌}
use mathlib.Core.Logic.{◌⊎◌, inl, inr}
use lib.Bits.{bit_or}
use lib.ListN.{get_or}
use native.Mathlib.Omega.{arith}
use Prim.Native.Nat.{◌+◌, ◌<◌, ◌≤◌}
use Rattle.scan.proofs.Clears.{clear_none, clear_step}
use Rattle.framed.proofs.Carried.{lower_of, both_zero}
use Rattle.framed.proofs.carry.is_apart.Goals as goal
use Rattle.framed.proofs.carry.is_apart.Goals.{then-x-m, else-x-m}

pub loop-k-init : goal.loop-k-init
loop-k-init c = let a = c.args in λ h. clear_none 0 0 a.unit.now a.from

pub loop-k-preserved : goal.loop-k-preserved
loop-k-preserved c =
    let a = c.args in
    let s = a.unit.now in
    let k = c.loop-k.k in
    let x = bit_or (get_or s (a.from + k) 0) (get_or s (a.from + k + 1) 0) in
    let w : ((p : x < c.loop-k.m) × (c.if-x-m.m ≡ x)) ⊎ ((q : c.loop-k.m ≤ x) × (c.if-x-m.m ≡ c.loop-k.m)) =
    elim c.if-x-m.branch [ then-x-m v ↦ inl (v.if-x-m.true, v.m-is) | else-x-m v ↦ inr (v.if-x-m.false, v.m-is) ] in
    let l = lower_of w (λ h. h) (λ h. h) in
    clear_step 0 0 s a.from k c.loop-k.m x c.if-x-m.m c.loop-k.invariant both_zero l.0 l.1

pub returns : goal.returns
returns c = λ e.
    let q : c.loop-k.k ≡ c.args.count = omega arith in
    rw q at (c.loop-k.invariant (ltb-true 0 c.loop-k.m e))
