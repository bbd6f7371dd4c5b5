use native.Mathlib.Omega.{arith}
use mathlib.Core.Path.{◌∙◌}
use Prim.Native.Nat.{◌+◌, ◌-◌, ◌≤◌}
use lib.ListN.{length, take, drop, length-drop, length-take}
use Rattle.bits.proofs.Copies.{copied_all, copied-to}
use Rattle.escape.specs.Known.{known_body}
use Rattle.escape.proofs.Runs.{started, no-known, none_before, none_left, found-there, esc-room, went_on, ended}
use Rattle.escape.proofs.escape.copy_kept.Goals as goal

pub returns-then-n-from : goal.returns-then-n-from
returns-then-n-from c =
    let a = c.args in
    let e = no-known a.unit.now a.from a.known (omega arith) in
    record { value = rw e; scratch_after = rw e }

pub loop-scratch-init : goal.loop-scratch-init
loop-scratch-init c = let a = c.args in started a.unit.now a.from a.known a.scratch.now (omega arith) c.later-seen.ensures

pub shape_of-scratch-then-n-e : goal.shape_of-scratch-then-n-e
shape_of-scratch-then-n-e c = c.copy_in.auto.dst ∙ c.loop-scratch.invariant.same

pub returns-then-n-e : goal.returns-then-n-e
returns-then-n-e c =
    let m = c.copy_in in
    let l = c.loop-scratch in
    let a = c.args in
    let k = c.seek-e in
    let w = l.invariant in
    let src = take (length a.unit.now - l.i) (drop l.i a.unit.now) in
    let g : l.o + length src ≤ length l.scratch = rw (length-take, length-drop) (omega arith) in
    let e =
    ended a.unit.now (known_body a.unit.now a.from a.known) a.from a.scratch.now l.scratch l.i l.o l.seen w
    m.result m.new.dst
    (none_left a.unit.now l.seen k.result k.ensures (omega arith))
    (omega arith) (copied-to src l.scratch l.o g m.ensures.value) (m.ensures.dst_after ∙ copied_all src l.scratch l.o g) in
    record { value = e.0; scratch_after = e.1 }

pub slice_bounds-copy_in-end-in-loop-scratch : goal.slice_bounds-copy_in-end-in-loop-scratch
slice_bounds-copy_in-end-in-loop-scratch c =
    let l = c.loop-scratch in
    let a = c.args in
    omega (arith, esc-room (found-there a.unit.now l.seen c.seek-e.result c.seek-e.ensures (omega arith)))

pub overflow_add-i : goal.overflow_add-i
overflow_add-i c =
    let l = c.loop-scratch in
    let a = c.args in
    let p = esc-room (found-there a.unit.now l.seen c.seek-e.result c.seek-e.ensures (omega arith)) in
    omega arith

pub loop-scratch-smaller : goal.loop-scratch-smaller
loop-scratch-smaller c =
    let l = c.loop-scratch in
    let a = c.args in
    let p = esc-room (found-there a.unit.now l.seen c.seek-e.result c.seek-e.ensures (omega arith)) in
    let q = c.seek-e.ensures in
    let h : l.i ≤ l.seen = l.invariant.ahead in
    omega arith

pub loop-scratch-preserved : goal.loop-scratch-preserved
loop-scratch-preserved c =
    let m = c.copy_in-o in
    let l = c.loop-scratch in
    let a = c.args in
    let u = a.unit.now in
    let e = c.seek-e.result in
    let q = c.seek-e.ensures in
    let w = l.invariant in
    let h : l.i ≤ l.seen = w.ahead in
    let p = esc-room (found-there u l.seen e q (omega arith)) in
    let src = take (e + 2 - l.i) (drop l.i u) in
    let g : l.o + length src ≤ length l.scratch = rw (length-take, length-drop) (omega arith) in
    went_on u (known_body u a.from a.known) a.from a.scratch.now l.scratch l.i l.o l.seen w e m.result m.new.dst
    (omega arith) (none_before u l.seen e q) (found-there u l.seen e q (omega arith)) (omega arith) (copied-to src l.scratch l.o g m.ensures.value) (m.ensures.dst_after ∙ copied_all src l.scratch l.o g)
