use native.Mathlib.Omega.{arith}
use lib.ListN.{replicate, length-replicate}
use Rattle.bits.proofs.Copies.{by_way}
use Rattle.bits.proofs.copy.move_by.Goals as goal

pub returns : goal.returns
returns g c =
    let a = c.args in
    by_way a.src.now a.i a.dst.now a.o (replicate g.row.N 0) g.row.N (length-replicate g.row.N 0) (omega arith) c.copy_bytes.ensures.dst_after c.copy_bytes-2.ensures.dst_after
