use native.Mathlib.Omega.{arith}
use mathlib.Core.Path.{◌≡◌, sym, ◌∙◌}
use Prim.Native.Nat.{◌+◌, ◌-◌}
use Rattle.walk.proofs.Trims.{trim-on, trim-stop, trim_start}
use Rattle.walk.proofs.search.trim.Goals as goal

pub loop-i-init : goal.loop-i-init
loop-i-init c = sym (trim_start c.args.s.now c.args.from)

pub returns-then-s-i-ne0 : goal.returns-then-s-i-ne0
returns-then-s-i-ne0 c =
    let a = c.args in
    let e = c.loop-i.i in
    let q : e - 1 + 1 - a.from ≡ e - a.from = omega arith in
    q ∙ sym (c.loop-i.invariant ∙ trim-stop a.s.now a.from e (omega arith) (omega arith) c.if-s-i-ne0.true)

pub loop-i-preserved : goal.loop-i-preserved
loop-i-preserved c = let a = c.args in c.loop-i.invariant ∙ trim-on a.s.now a.from c.loop-i.i (omega arith) (omega arith) c.if-s-i-ne0.false

pub returns : goal.returns
returns c =
    let z : c.loop-i.i - c.args.from ≡ 0 = omega arith in
    sym (rw z at c.loop-i.invariant)
