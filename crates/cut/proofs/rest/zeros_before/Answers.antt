use native.Mathlib.Omega.{arith}
use native.Mathlib.Numerals.{add-one}
use mathlib.Core.Path.{refl, sym, ◌∙◌}
use lib.ListN.{get_or}
use Rattle.cut.proofs.Bytes.{zeros-few, zeros-more, zeros-end}
use Rattle.cut.proofs.rest.zeros_before.Goals as goal

pub loop-i-init : goal.loop-i-init
loop-i-init c = (refl, omega arith, omega arith)

pub loop-i-preserved : goal.loop-i-preserved
loop-i-preserved c =
    let l = c.loop-i in
    let a = c.args in
    let f = zeros-few l.z (get_or a.unit.now l.i 0) in
    let e = c.zeros_after-z.ensures in
    (rw (e, add-one) (l.invariant.0 ∙ zeros-more a.unit.now a.to l.i c.requires l.z (omega arith)), omega arith, omega arith)

pub returns : goal.returns
returns c = (sym (c.loop-i.invariant.0 ∙ zeros-end c.args.unit.now c.args.to c.loop-i.i c.requires c.loop-i.z (omega arith)), c.loop-i.invariant.2)
