use mathlib.Core.Path.{refl, sym, ap, ◌∙◌}
use native.Mathlib.Omega.{arith}
use lib.ListN.{drop}
use Rattle.framed.specs.Framed.{framed_at, end_of}
use Rattle.framed.specs.Convert.{first_uncarried}
use Rattle.framed.proofs.Carried.{is-on, is-first}
use Rattle.framed.proofs.Steps.{went, stopped}
use Rattle.framed.proofs.carry.survey.Goals as goal

pub loop-place-init : goal.loop-place-init
loop-place-init c = (omega arith, refl, refl)

pub returns-in_default : goal.returns-in_default
returns-in_default c =
    let e = stopped c.args.recording.now c.loop-place.i (omega arith) c.next_framed.ensures c.in_default.not-Unit in
    record { end_value = sym (rw e at c.loop-place.invariant.1); first_value = sym (rw e at c.loop-place.invariant.2) }

-- what the step came to
pub slice_bounds-is_carried-count : goal.slice_bounds-is_carried-count
slice_bounds-is_carried-count c = let w = went _ _ (omega arith) (sym c.next_framed.ensures ∙ c.in-Unit.is) in omega arith

pub slice_bounds-is_carried-start : goal.slice_bounds-is_carried-start
slice_bounds-is_carried-start c = let w = went _ _ (omega arith) (sym c.next_framed.ensures ∙ c.in-Unit.is) in omega arith

pub slice_bounds-is_carried-end : goal.slice_bounds-is_carried-end
slice_bounds-is_carried-end c = let w = went _ _ (omega arith) (sym c.next_framed.ensures ∙ c.in-Unit.is) in omega arith

pub loop-place-smaller : goal.loop-place-smaller
loop-place-smaller c = let w = went _ _ (omega arith) (sym c.next_framed.ensures ∙ c.in-Unit.is) in omega arith

pub loop-place-preserved : goal.loop-place-preserved
loop-place-preserved c =
    let s = c.args.recording.now in
    let p = c.in-Unit.place in
    let m = c.in-Unit.next in
    let w = went _ _ (omega arith) (sym c.next_framed.ensures ∙ c.in-Unit.is) in
    let on = is-on p _ m s (framed_at 0 m (drop m s)) w.inside (sym c.is_carried.ensures ∙ c.if-is_carried.true) in
    (omega arith, c.loop-place.invariant.1 ∙ ap (end_of c.loop-place.i) w.there, c.loop-place.invariant.2 ∙ ap first_uncarried w.there ∙ on)

pub returns-else-is_carried : goal.returns-else-is_carried
returns-else-is_carried c =
    let s = c.args.recording.now in
    let p = c.in-Unit.place in
    let m = c.in-Unit.next in
    let w = went _ _ (omega arith) (sym c.next_framed.ensures ∙ c.in-Unit.is) in
    let is = is-first p _ m s (framed_at 0 m (drop m s)) w.inside (sym c.is_carried.ensures ∙ c.if-is_carried.false) in
    record { end_value = c.units_end.ensures ∙ sym (c.loop-place.invariant.1 ∙ ap (end_of c.loop-place.i) w.there); first_value = sym (c.loop-place.invariant.2 ∙ ap first_uncarried w.there ∙ is) }
