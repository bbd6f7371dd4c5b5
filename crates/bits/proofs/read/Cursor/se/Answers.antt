use Rattle.std.proofs.Common.{sym}
use Rattle.bits.proofs.Reading.{ue-lt}
use Rattle.bits.proofs.read.Cursor.se.Goals as goal

pub signed-requires : goal.signed-requires
signed-requires c = ue-lt _ _ _ _ (sym c.in_ok-k.ensures)
