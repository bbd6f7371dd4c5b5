use mathlib.Core.Path.{◌≡◌, sym, ◌∙◌}
use Prim.Native.Nat.{◌-◌, ◌+◌}
use native.Mathlib.Omega.{arith}
use lib.ListN.{take, drop}
use Rattle.walk.proofs.Chain.{went, ended}
use Rattle.framed.specs.Convert.{length_bytes}
use Rattle.framed.proofs.Fills.{filled_none, filled-all}
use Rattle.framed.proofs.Joins.{unit-room, unit-put, length-put}
use Rattle.framed.proofs.convert.put_lengths.Goals as goal

pub loop-u-init : goal.loop-u-init
loop-u-init c = (omega arith, filled_none _ _)

pub shape_of-out-in_default : goal.shape_of-out-in_default
shape_of-out-in_default c = c.loop-u.invariant.1.same

pub returns-in_default : goal.returns-in_default
returns-in_default c =
    let e = ended c.args.recording.now c.loop-u.i (sym c.next_unit.ensures ∙ c.in_default.is) in
    let all = filled-all (rw e at c.loop-u.invariant.1) in
    record { value = all.0; out_after = all.1 }

pub overflow_add-end : goal.overflow_add-end
overflow_add-end c = let w = went c.args.recording.now c.loop-u.i _ (sym c.next_unit.ensures ∙ c.in-Some.is) in omega arith

pub slice_bounds-put_unit-count : goal.slice_bounds-put_unit-count
slice_bounds-put_unit-count c = let w = went c.args.recording.now c.loop-u.i _ (sym c.next_unit.ensures ∙ c.in-Some.is) in omega arith

pub slice_bounds-put_unit-start : goal.slice_bounds-put_unit-start
slice_bounds-put_unit-start c = let w = went c.args.recording.now c.loop-u.i _ (sym c.next_unit.ensures ∙ c.in-Some.is) in omega arith

pub slice_bounds-put_unit-end : goal.slice_bounds-put_unit-end
slice_bounds-put_unit-end c = let w = went c.args.recording.now c.loop-u.i _ (sym c.next_unit.ensures ∙ c.in-Some.is) in omega arith

pub put_unit-o-requires : goal.put_unit-o-requires
put_unit-o-requires c =
    let s = c.args.recording.now in
    let p = c.in-Some.u.place in
    let n = c.in-Some.u.length in
    let w = went s c.loop-u.i _ (sym c.next_unit.ensures ∙ c.in-Some.is) in
    let l : p + n - p ≡ n = omega arith in
    let z = length-put s p n (omega arith) c.low.ensures c.low-in-loop-u.ensures c.low-in-loop-u-2.ensures c.low-in-loop-u-3.ensures in
    unit-room length_bytes c.low.result c.low-in-loop-u.result c.low-in-loop-u-2.result c.low-in-loop-u-3.result (take (p + n - p) (drop p s)) w.there (rw l) (rw l z) c.loop-u.invariant.1 c.requires.1

pub loop-u-smaller : goal.loop-u-smaller
loop-u-smaller c = let w = went c.args.recording.now c.loop-u.i _ (sym c.next_unit.ensures ∙ c.in-Some.is) in omega arith

pub loop-u-preserved : goal.loop-u-preserved
loop-u-preserved c =
    let s = c.args.recording.now in
    let p = c.in-Some.u.place in
    let n = c.in-Some.u.length in
    let w = went s c.loop-u.i _ (sym c.next_unit.ensures ∙ c.in-Some.is) in
    let l : p + n - p ≡ n = omega arith in
    let z = length-put s p n (omega arith) c.low.ensures c.low-in-loop-u.ensures c.low-in-loop-u-2.ensures c.low-in-loop-u-3.ensures in
    (omega arith, unit-put length_bytes c.low.result c.low-in-loop-u.result c.low-in-loop-u-2.result c.low-in-loop-u-3.result (take (p + n - p) (drop p s)) w.there (rw l) (rw l z) c.loop-u.invariant.1 c.requires.1 c.put_unit-o.result c.put_unit-o.new.out c.put_unit-o.ensures.value c.put_unit-o.ensures.out_after)
