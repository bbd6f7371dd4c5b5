use mathlib.Core.Path.{◌≡◌, ◌∙◌}
use Prim.Native.Nat.{◌+◌, ◌≤◌}
use native.Mathlib.Omega.{arith}
use lib.ListN.{length, set, length-set}
use Rattle.bits.proofs.Copies.{copied_all, copied-to}
use Rattle.framed.proofs.Fills.{unit-laid}
use Rattle.framed.proofs.put.put_unit.Goals as goal

pub bounds-out-at-2 : goal.bounds-out-at-2
bounds-out-at-2 c = simp length-set (omega arith)

pub bounds-out-at-3 : goal.bounds-out-at-3
bounds-out-at-3 c = simp length-set (omega arith)

pub bounds-out-at-4 : goal.bounds-out-at-4
bounds-out-at-4 c = simp length-set (omega arith)

pub shape_of-out : goal.shape_of-out
shape_of-out c = c.copy_in.auto.dst ∙ simp length-set

pub returns : goal.returns
returns c =
    let a = c.args in
    let dst = set (set (set (set a.out.now a.at a.a) (a.at + 1) a.b) (a.at + 2) a.c) (a.at + 3) a.d in
    let room : a.at + 4 + length a.unit.now ≤ length dst = simp length-set (omega arith) in
    let to = copied-to a.unit.now dst (a.at + 4) room c.copy_in.ensures.value in
    let e : c.copy_in.result ≡ a.at + (4 + length a.unit.now) = omega arith in
    record { value = e; out_after = rw (c.copy_in.ensures.dst_after, copied_all a.unit.now dst (a.at + 4) room, e) (unit-laid a.out.now a.unit.now a.at a.a a.b a.c a.d c.requires) }
