use borrow.Author.Rules.{rules}
use native.Mathlib.Omega.{arith}
use mathlib.Core.Path.{refl, sym, ◌∙◌}
use lib.Seq.{take_all}
use Rattle.cut.specs.Seam.{body_bits, behind_bits, near}
use lib.ListN.{take}
use Rattle.cut.proofs.Seams.{cut-bits}
use Rattle.front.proofs.Steps.{prefix-kept, prefix-refusal-kept}
use Rattle.front.proofs.body.prefix_body.Goals as goal

pub returns-then-unit-le-NEAR : goal.returns-then-unit-le-NEAR
returns-then-unit-le-NEAR c = rw (← take_all near c.args.unit.now (omega arith)) c.prefix_near-a.ensures

pub returns-in_default : goal.returns-in_default
returns-in_default c =
    let u = c.args.unit.now in
    let h = c.prefix_near-a.ensures in
    let e = cut-bits u 4 near (omega arith) (omega arith) in
    let k = prefix-kept c.args.kind (body_bits (take near u) 4) (behind_bits u 4 near) h.value h.base_after _ _ c.in_default.is in
    record { value = rw e k.0; base_after = rw e k.1 }

pub returns : goal.returns
returns c =
    let u = c.args.unit.now in
    let h = c.prefix_near-a.ensures in
    let e = cut-bits u 4 near (omega arith) (omega arith) in
    let k = prefix-refusal-kept c.args.kind (body_bits (take near u) 4) (behind_bits u 4 near) (sym c.in-Err.is ∙ h.value) h.base_after _ refl (rw (← c.may_change.ensures) (search rules)) in
    record { value = rw e k.0; base_after = rw e k.1 }
