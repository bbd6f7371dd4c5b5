use mathlib.Core.Path.{refl, sym, ap, ◌∙◌}
use native.Mathlib.Omega.{arith}
use borrow.Author.Tests.{not-false}
use lib.Seq.{length-take-le}
use Rattle.table.proofs.Tests.{held}
use Rattle.lines.proofs.Texts.{same_line}
use Rattle.list_steps.specs.declared.step.State.{State}
use Rattle.list_steps.proofs.Turns.{goes_on}
use Rattle.listing.proofs.print.Goals as goal

pub loop-state-init : goal.loop-state-init
loop-state-init g c = (refl, refl, rw c.start-state.ensures (omega arith))

pub slice_bounds-line-end : goal.slice_bounds-line-end
slice_bounds-line-end g c = omega (arith, c.list_step_into-l.ensures.stepped.text.short, same_line c.list_step_into-l.ensures.stepped.text, c.loop-state.invariant.1)

pub slice_bounds-write_all-end : goal.slice_bounds-write_all-end
slice_bounds-write_all-end g c = sym (length-take-le _ _ (omega (arith, c.list_step_into-l.ensures.stepped.text.short, same_line c.list_step_into-l.ensures.stepped.text, c.loop-state.invariant.1)))

pub loop-state-smaller : goal.loop-state-smaller
loop-state-smaller g c =
    let l = c.list_step_into-l.ensures.stepped in
    let n = goes_on _ _ _ _ (held l.more (not-false _ c.if-not-l.false)) in
    omega (arith, n.0, n.1, ap (λ (s : State). s.from) l.state)

pub loop-state-preserved : goal.loop-state-preserved
loop-state-preserved g c =
    let l = c.list_step_into-l.ensures.stepped in
    let k = c.list_step_into-l.auto in
    let i = c.loop-state.invariant in
    let n = goes_on _ _ _ _ (held l.more (not-false _ c.if-not-l.false)) in
    (k.scratch ∙ i.0, same_line l.text ∙ i.1, omega (arith, n.1, ap (λ (s : State). s.from) l.state))
