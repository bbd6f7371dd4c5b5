use Prim.Native.Nat.{◌+◌, ◌/◌, ◌≤◌, ◌<◌, ◌^◌}
use mathlib.Core.Path.{refl, sym, ◌∙◌}
use native.Mathlib.Omega.{arith}
use mir.Facts.{to_z_pos}
use mir.Syntax.{w64}
use lib.ListN.{length}
use lib.Seq.{length-take-le}
use borrow.Author.Tests.{le-leb, lt-leb}
use Rattle.writer.specs.Stages.{copied}
use Rattle.writer.proofs.Copies.{copied-front}
use Rattle.writer.proofs.write.copy_out.Goals as goal

pub returns-then-out-m : goal.returns-then-out-m
unfolding copied
returns-then-out-m c =
    let k : (c.args.n + 7) / 8 < 2 ^ 63 = omega arith in
    rw (rw (to_z_pos w64 k) at c.refuse.ensures, lt-leb _ _ c.if-out-m.true) (refl, refl)

pub slice_bounds-copy_in-end : goal.slice_bounds-copy_in-end
slice_bounds-copy_in-end c =
    let a = c.args in
    let k : (a.n + 7) / 8 ≤ length a.d.now = omega arith in
    sym (length-take-le _ _ k)

pub returns : goal.returns
unfolding copied
returns c =
    let a = c.args in
    let m = (a.n + 7) / 8 in
    rw (le-leb _ _ c.if-out-m.false) (refl, c.copy_in.ensures.dst_after ∙ copied-front a.d.now a.out.now m (omega arith) (omega arith))
