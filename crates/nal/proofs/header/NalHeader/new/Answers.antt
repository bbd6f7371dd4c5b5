use mathlib.Core.Path.{sym}
use native.Mathlib.Omega.{arith}
use Rattle.nal.proofs.FirstByte.{top_set, top-clear}
use Rattle.nal.proofs.header.NalHeader.new.Goals as goal

pub returns-then-header_value-gt127 : goal.returns-then-header_value-gt127
returns-then-header_value-gt127 c = rw c.refuse.ensures (sym (top_set c.args.header_value (omega arith) (omega arith)))

pub returns : goal.returns
returns c = sym (top-clear c.args.header_value (omega arith))
