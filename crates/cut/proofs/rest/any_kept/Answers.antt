use native.Mathlib.Omega.{arith}
use native.Mathlib.Numerals.{add-one}
use mathlib.Core.Path.{refl, sym, ◌∙◌}
use lib.ListN.{get_or}
use Rattle.cut.proofs.Bytes.{zeros-few, kept-none, kept_set, kept-end}
use borrow.Author.Rules.{rules}
use Rattle.cut.proofs.rest.any_kept.Goals as goal

pub loop-i-init : goal.loop-i-init
loop-i-init c = (refl, omega arith)

pub returns-then-stands : goal.returns-then-stands
returns-then-stands c =
    let l = c.loop-i in
    let u = c.args.unit.now in
    sym (l.invariant.0 ∙ kept_set u l.zeros l.i (search rules) (omega (arith, c.type_inv.unit l.i)) (sym c.stands.ensures ∙ c.if-stands.true))

pub loop-i-preserved : goal.loop-i-preserved
loop-i-preserved c =
    let l = c.loop-i in
    let u = c.args.unit.now in
    let f = zeros-few l.zeros (get_or u l.i 0) in
    let e = c.zeros_after-zeros.ensures in
    (rw (e, add-one) (l.invariant.0 ∙ kept-none u l.zeros l.i (search rules) (sym c.stands.ensures ∙ c.if-stands.false)), omega arith)

pub returns : goal.returns
returns c = sym (c.loop-i.invariant.0 ∙ kept-end c.args.unit.now c.loop-i.zeros c.loop-i.i (search rules))
