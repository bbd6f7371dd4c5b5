use Rattle.fields.proofs.Cases.{as-width}
use Rattle.writer.proofs.marks.put_lsb_if.Goals as goal

pub returns : goal.returns
returns c = rw (← as-width _ _ c.four_more.ensures) c.put_bits_if.ensures
