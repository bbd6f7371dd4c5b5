use mathlib.Core.Path.{sym, ◌∙◌}
use native.Mathlib.Omega.{arith}
use Rattle.nal.proofs.FirstByte.{no_byte_lem, first_byte}
use Rattle.nal.proofs.header.header_of.Goals as goal

pub returns-then-unit-eq0 : goal.returns-then-unit-eq0
returns-then-unit-eq0 c = rw c.refuse.ensures (sym (no_byte_lem c.args.unit.now (omega arith)))

pub returns : goal.returns
returns c = c.new.ensures ∙ sym (first_byte c.args.unit.now (omega arith))
