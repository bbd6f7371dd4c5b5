use mathlib.Core.Path.{◌≡◌, refl, sym, ◌∙◌}
use Prim.Native.Nat.{◌-◌}
use native.Mathlib.Omega.{arith}
use lib.ListN.{take, drop}
use Rattle.framed.specs.Convert.{start_code}
use Rattle.framed.proofs.Steps.{went, stopped}
use Rattle.framed.proofs.Fills.{filled_none, filled-all}
use Rattle.framed.proofs.Joins.{unit-room, unit-put}
use Rattle.framed.proofs.convert.put_codes.Goals as goal

pub loop-place-init : goal.loop-place-init
loop-place-init c = (omega arith, filled_none _ _)

pub shape_of-out-in_default : goal.shape_of-out-in_default
shape_of-out-in_default c = c.loop-place.invariant.1.same

pub returns-in_default : goal.returns-in_default
returns-in_default c =
    let e = stopped c.args.recording.now c.loop-place.i (omega arith) c.next_framed.ensures c.in_default.not-Unit in
    let all = filled-all (rw e at c.loop-place.invariant.1) in
    record { value = all.0; out_after = all.1 }

pub slice_bounds-put_unit-count : goal.slice_bounds-put_unit-count
slice_bounds-put_unit-count c = let w = went c.args.recording.now c.loop-place.i (omega arith) (sym c.next_framed.ensures ∙ c.in-Unit.is) in omega arith

pub slice_bounds-put_unit-start : goal.slice_bounds-put_unit-start
slice_bounds-put_unit-start c = let w = went c.args.recording.now c.loop-place.i (omega arith) (sym c.next_framed.ensures ∙ c.in-Unit.is) in omega arith

pub slice_bounds-put_unit-end : goal.slice_bounds-put_unit-end
slice_bounds-put_unit-end c = let w = went c.args.recording.now c.loop-place.i (omega arith) (sym c.next_framed.ensures ∙ c.in-Unit.is) in omega arith

pub put_unit-o-requires : goal.put_unit-o-requires
put_unit-o-requires c =
    let s = c.args.recording.now in
    let p = c.in-Unit.place in
    let m = c.in-Unit.next in
    let w = went s c.loop-place.i (omega arith) (sym c.next_framed.ensures ∙ c.in-Unit.is) in
    let l : m - p ≡ c.in-Unit.field-1 = omega arith in
    unit-room start_code 0 0 0 1 (take (m - p) (drop p s)) w.there (rw l) refl c.loop-place.invariant.1 c.requires.1

pub loop-place-smaller : goal.loop-place-smaller
loop-place-smaller c = let w = went c.args.recording.now c.loop-place.i (omega arith) (sym c.next_framed.ensures ∙ c.in-Unit.is) in omega arith

pub loop-place-preserved : goal.loop-place-preserved
loop-place-preserved c =
    let s = c.args.recording.now in
    let p = c.in-Unit.place in
    let m = c.in-Unit.next in
    let w = went s c.loop-place.i (omega arith) (sym c.next_framed.ensures ∙ c.in-Unit.is) in
    let l : m - p ≡ c.in-Unit.field-1 = omega arith in
    (omega arith, unit-put start_code 0 0 0 1 (take (m - p) (drop p s)) w.there (rw l) refl c.loop-place.invariant.1 c.requires.1 c.put_unit-o.result c.put_unit-o.new.out c.put_unit-o.ensures.value c.put_unit-o.ensures.out_after)
