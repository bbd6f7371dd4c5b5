use native.Mathlib.Nat.{sub-add_cancel}
use native.Mathlib.Omega.{arith}
use mathlib.Core.Path.{refl}
use Prim.Native.Nat.{◌-◌}
use lib.ListN.{length}
use lib.Seq.{paste-zero}
use Rattle.bits.proofs.Copies.{paste-over}
use Rattle.bits.proofs.copy.copy_all.Goals as goal

-- the first eight bytes and the last eight
pub returns-then-n-lt16-clause-dst_after : goal.returns-then-n-lt16-clause-dst_after
returns-then-n-lt16-clause-dst_after c =
    let a = c.args in
    paste-over a.dst.now a.at a.src.now (length a.src.now - 8) 8 8 (omega arith) (omega arith) (omega arith) (omega arith) (sub-add_cancel (omega arith)) c.move_by.ensures c.move_by-then-n-lt16.ensures

pub loop-j-init : goal.loop-j-init
loop-j-init c = let a = c.args in (omega arith, paste-zero a.dst.now a.at a.src.now)

pub loop-j-preserved : goal.loop-j-preserved
loop-j-preserved c =
    let a = c.args in
    (omega arith, paste-over a.dst.now a.at a.src.now c.loop-j.j c.loop-j.j 16 (omega arith) (omega arith) (omega arith) (omega arith) refl c.loop-j.invariant.1 c.move_by-in-loop-j.ensures)

-- the last sixteen
pub returns-clause-dst_after : goal.returns-clause-dst_after
returns-clause-dst_after c =
    let a = c.args in
    paste-over a.dst.now a.at a.src.now (length a.src.now - 16) c.loop-j.j 16 (omega arith) (omega arith) (omega arith) (omega arith) (sub-add_cancel (omega arith)) c.loop-j.invariant.1 c.move_by-2.ensures
