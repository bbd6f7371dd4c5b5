use Rattle.bits.proofs.Writes.{ends-flag}
use Rattle.bits.proofs.put.put_flag.Goals as goal

pub returns : goal.returns
returns c =
    let e = ends-flag c.args.b _ _ _ _ _ c.bit.ensures (c.put_bits.ensures.value, c.put_bits.ensures.d_after) in
    record { value = e.0; d_after = e.1 }
