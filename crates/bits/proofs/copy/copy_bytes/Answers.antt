use native.Mathlib.Omega.{arith}
use native.Mathlib.Numerals.{add-one}
use mathlib.Core.Path.{◌≡◌, refl}
use lib.ListN.{length}
use lib.Seq.{paste-zero, paste-suc}
use Rattle.bits.proofs.copy.copy_bytes.Goals as goal

pub loop-j-init : goal.loop-j-init
loop-j-init c = paste-zero c.args.dst.now c.args.at c.args.src.now

pub loop-j-preserved : goal.loop-j-preserved
loop-j-preserved c =
    let a = c.args in
    rw (c.loop-j.invariant, add-one c.loop-j.j) (paste-suc a.dst.now a.at a.src.now c.loop-j.j 0 (omega arith) (omega arith))

pub returns : goal.returns
returns c =
    let q : c.loop-j.j ≡ length c.args.src.now = omega arith in
    record { value = refl; dst_after = rw (← q) c.loop-j.invariant }
