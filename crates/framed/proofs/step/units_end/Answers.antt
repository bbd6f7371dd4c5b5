use mathlib.Core.Path.{refl, sym, ap, ◌∙◌}
use native.Mathlib.Omega.{arith}
use Rattle.framed.specs.Framed.{end_of}
use Rattle.framed.proofs.Steps.{went, stopped}
use Rattle.framed.proofs.step.units_end.Goals as goal

pub loop-next-init : goal.loop-next-init
loop-next-init c = refl

pub returns-in_default : goal.returns-in_default
returns-in_default c =
    let e = stopped c.args.recording.now c.loop-next.i (omega arith) c.next_framed.ensures c.in_default.not-Unit in
    sym (rw e at c.loop-next.invariant)

pub loop-next-smaller : goal.loop-next-smaller
loop-next-smaller c = let w = went c.args.recording.now c.loop-next.i (omega arith) (sym c.next_framed.ensures ∙ c.in-Unit.is) in omega arith

pub loop-next-preserved : goal.loop-next-preserved
loop-next-preserved c =
    let w = went c.args.recording.now c.loop-next.i (omega arith) (sym c.next_framed.ensures ∙ c.in-Unit.is) in
    c.loop-next.invariant ∙ ap (end_of c.loop-next.i) w.there
